use Rattle.std.proofs.Common.{◌≡◌, ◌≤◌, drop}
use Rattle.log_gather.proofs.ReachedEvents.{pass_of, passed}
use Rattle.log_gather.proofs.spans.reach_from.Given as goal

abbrev pub invariant-loop-i : goal.invariant-loop-i
invariant-loop-i l = record {
  counted : l.length ≤ l.i;
  stays : passed l.hart.0 l.inside_at_end l.i l.length l.moved_out (drop l.i l.from) ≡ pass_of l.hart.0 l.inside_at_end l.from;
}
