use Rattle.std.proofs.Common.{◌≡◌, ◌++◌}
use Rattle.std.specs.List.{flat_map, range_with_len}
use Rattle.event_facts.specs.Threads.{created_fact}
use Rattle.event_facts.proofs.threads.push_all_created.Given as goal

-- the threads so far
abbrev pub invariant-loop-further : goal.invariant-loop-further
invariant-loop-further l = l.facts.items ≡ l.initial.facts.items ++ flat_map (created_fact l.given l.threads.threads) (range_with_len 0 l.further)
