use Rattle.std.proofs.Common.{◌≡◌, map}
use Rattle.std.specs.List.{range_with_len}
use Rattle.block_model.specs.History.{reservation}
use Rattle.event_facts.specs.Telling.{past_of}
use Rattle.event_facts.proofs.kept_reservations.all_reservations.Given as goal

-- the harts so far
abbrev pub invariant-loop-number : goal.invariant-loop-number
invariant-loop-number l = l.kept.items ≡ map (λ k. reservation k (past_of l.machine)) (range_with_len 0 l.number)
