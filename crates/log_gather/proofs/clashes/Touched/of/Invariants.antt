use Rattle.std.proofs.Common.{map, take}
use Rattle.log_gather.specs.ByteSets.{IsTouched}
use Rattle.log_gather.specs.Marks.{steps_of}
use Rattle.log_gather.specs.Turns.{event_of, own_steps}
use Rattle.log_gather.proofs.clashes.Touched.of.Given as goal

abbrev pub invariant-loop-mark : goal.invariant-loop-mark
invariant-loop-mark l = IsTouched (map event_of (own_steps l.hart.0 (steps_of l.details (take l.mark-index l.span)))) l.touched
