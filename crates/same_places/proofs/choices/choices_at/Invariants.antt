use Rattle.std.proofs.Common.{◌≡◌, ◌++◌, map, take}
use Rattle.scheduler.specs.Entries.{numbers}
use Rattle.same_places.specs.Choices.{fixed_choices, run_of}
use Rattle.same_places.proofs.choices.choices_at.Given as goal

abbrev pub invariant-loop-entry : goal.invariant-loop-entry
invariant-loop-entry l = l.list.items ≡ fixed_choices ++ map run_of (numbers (take l.entry-index l.order))
