use Rattle.std.proofs.Common.{◌≡◌, ℕ, length, []}
use Rattle.event_facts.specs.Tied.{items_at}
use Rattle.event_facts.proofs.lines.none_waiting.Given as goal

-- none waits on the harts so far
abbrev pub invariant-loop : goal.invariant-loop
invariant-loop l = record {
  count : length l.waiting.items ≡ l.counter;
  none : (k : ℕ) → items_at l.waiting.items k ≡ [];
}
