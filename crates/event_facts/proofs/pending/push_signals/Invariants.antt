use Rattle.std.proofs.Common.{◌≡◌, ◌++◌}
use Rattle.std.specs.List.{flat_map, range_with_len}
use Rattle.event_facts.specs.Pending.{signal_from}
use Rattle.event_facts.proofs.pending.push_signals.Given as goal

-- the threads so far
abbrev pub invariant-loop-earlier : goal.invariant-loop-earlier
invariant-loop-earlier l =
    l.facts.items ≡ l.initial.facts.items ++ flat_map (signal_from l.pending l.delivered l.tid.0 l.signals) (range_with_len 0 l.earlier)
