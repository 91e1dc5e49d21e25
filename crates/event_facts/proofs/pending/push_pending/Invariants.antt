use Rattle.std.proofs.Common.{◌≡◌, ◌++◌}
use Rattle.std.specs.List.{flat_map, range_with_len}
use Rattle.event_facts.specs.Pending.{pending_fact}
use Rattle.event_facts.proofs.pending.push_pending.Given as goal

-- the signals so far
abbrev pub invariant-loop-lower : goal.invariant-loop-lower
invariant-loop-lower l = l.facts.items ≡ l.initial.facts.items ++ flat_map (pending_fact l.delivered l.tid.0 l.before l.after) (range_with_len 0 l.lower)
