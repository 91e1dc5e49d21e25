use Rattle.std.proofs.Common.{◌<◌, length}
use Rattle.graph_walks.proofs.circles.suspect.Given as goal

abbrev pub invariant-loop-step : goal.invariant-loop-step
invariant-loop-step l = l.node < length l.reasons
