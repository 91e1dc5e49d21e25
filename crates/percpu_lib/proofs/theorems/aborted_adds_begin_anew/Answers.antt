use Rattle.std.proofs.Common.{refl}
use Rattle.std.proofs.lemmas.Bool.{leb-true}
use Rattle.percpu_lib.proofs.AddExample as example
use Rattle.percpu_lib.proofs.theorems.aborted_adds_begin_anew.Goals as goal

pub returns : goal.returns
returns c = (
  example.adding,
  example.first_time,
  example.earlier,
  example.rest,
  example.slots,
  example.at,
  example.area,
  0,
  1,
  example.is_run,
  example.holds,
  example.can_begin,
  example.shares,
  example.retried,
  example.runs_anew,
  example.begins_anew,
  example.undisturbed,
  leb-true 11 11 refl,
)
