use Rattle.std.proofs.Common.{◌≡◌, ◌++◌}
use Rattle.std.specs.List.{flat_map, range_with_len}
use Rattle.event_facts.specs.KernelEvents.{lost_from}
use Rattle.event_facts.proofs.kept_reservations.push_all_lost_from.Given as goal

-- the harts so far
abbrev pub invariant-loop-number : goal.invariant-loop-number
invariant-loop-number l =
    l.facts.items ≡ l.initial.facts.items ++ flat_map (lost_from l.own.0 l.kept l.writes) (range_with_len 0 l.number)
