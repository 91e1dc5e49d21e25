use Rattle.std.proofs.Common.{◌≡◌, map}
use Rattle.std.specs.List.{range_with_len}
use Rattle.event_facts.specs.Pending.{pending_behind}
use Rattle.event_facts.proofs.pending.all_pending.Given as goal

-- the threads so far
abbrev pub invariant-loop-earlier : goal.invariant-loop-earlier
invariant-loop-earlier l = l.pending.items ≡ map (pending_behind l.signals) (range_with_len 0 l.earlier)
