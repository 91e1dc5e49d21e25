use Rattle.std.proofs.Common.{ℕ, List, is_some, ap, ◌∙◌}
use Rattle.std.specs.List.{list_any}
use Rattle.mach_types.specs.Kernel.Scheduling.{is_of}
use Rattle.scheduler.proofs.Copies.{has_place}
use Rattle.scheduler.proofs.entry_list.take_out.Goals as goal

pub returns-clause-found : goal.returns-clause-found
returns-clause-found c =
    c.is_some.ensures ∙ ap is_some c.place_in-place.ensures ∙ has_place c.args.tid c.deref.result.now
    ∙ ap (λ (es : List (ℕ × ℕ)). list_any (is_of c.args.tid) es) c.deref.ensures.0
