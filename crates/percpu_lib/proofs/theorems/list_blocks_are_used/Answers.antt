use Rattle.std.proofs.Common.{◌≡◌, [], ◌∷◌, Some}
use Rattle.percpu_lib.specs.Adds.{cell_seen}
use Rattle.percpu_lib.specs.Pops.{pop_form}
use Rattle.percpu_lib.specs.Pushes.{push_form}
use Rattle.percpu_lib.specs.Uses.{cells_of}
use Rattle.percpu_lib.proofs.ExampleParts.{is_shown, place_of, value_shown}
use Rattle.percpu_lib.proofs.FormTests.{pop_tested, push_tested}
use Rattle.percpu_lib.proofs.ListExample as example
use Rattle.percpu_lib.proofs.ListExample.{is_pushed, log, pop, push, setting}
use Rattle.percpu_lib.proofs.UseTests.{just_is}
use Rattle.percpu_lib.proofs.theorems.list_blocks_are_used.Goals as goal

pub returns : goal.returns
returns c = record {
  push =
      is_shown push_form push_tested (λ s p q. cell_seen s 0 (cells_of s p q.thread q.begun) q.reached ≡ Some 0x20100)
      setting log 36 push.form.slots push.at (place_of pop ∷ []) is_pushed example.push_used
      (λ q is. just_is (cell_seen setting 0 (cells_of setting push.form.slots q.thread q.begun) q.reached) 0x20100 is);
  pop =
      value_shown pop_form pop_tested setting log 49 pop.form.slots pop.at (place_of push ∷ []) 0x20100 example.pop_used;
  empty =
      value_shown pop_form pop_tested setting log 61 pop.form.slots pop.at (place_of push ∷ []) 0 example.empty_used;
}
