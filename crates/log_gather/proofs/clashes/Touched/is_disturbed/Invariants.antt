use Rattle.std.proofs.Common.{◌≡◌, drop, map}
use Rattle.std.specs.List.{list_any}
use Rattle.log_gather.specs.ByteSets.{disturbs}
use Rattle.log_gather.specs.Marks.{steps_of}
use Rattle.log_gather.specs.Turns.{event_of}
use Rattle.log_gather.proofs.clashes.Touched.is_disturbed.Given as goal

abbrev pub invariant-loop-mark : goal.invariant-loop-mark
invariant-loop-mark l =
    list_any (disturbs l.self l.hart.0) (map event_of (steps_of l.details (drop l.mark-index l.span)))
    ≡ list_any (disturbs l.self l.hart.0) (map event_of (steps_of l.details l.span))
