use Rattle.std.proofs.Common.{◌≡◌, ◌++◌}
use Rattle.std.specs.List.{flat_map, range_with_len}
use Rattle.event_facts.specs.Threads.{told_from}
use Rattle.event_facts.proofs.threads.push_changes.Given as goal

-- the threads so far
abbrev pub invariant-loop-earlier : goal.invariant-loop-earlier
invariant-loop-earlier l = l.facts.items ≡ l.initial.facts.items ++ flat_map (told_from l.states l.threads.threads) (range_with_len 0 l.earlier)
