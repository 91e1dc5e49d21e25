use Rattle.std.proofs.Common.{◌≡◌, map}
use Rattle.std.specs.List.{range_with_len}
use Rattle.event_facts.specs.Threads.{state_behind}
use Rattle.event_facts.proofs.threads.states_of.Given as goal

-- the states so far
abbrev pub invariant-loop-earlier : goal.invariant-loop-earlier
invariant-loop-earlier l = l.states.items ≡ map (state_behind l.threads.threads) (range_with_len 0 l.earlier)
