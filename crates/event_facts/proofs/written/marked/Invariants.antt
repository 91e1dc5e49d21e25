use Rattle.std.proofs.Common.{◌≡◌, ℕ, length, get_or, cond}
use Rattle.event_facts.specs.Written.{is_from_to}
use Rattle.event_facts.proofs.written.marked.Given as goal

-- those before the counter are marked
abbrev pub invariant-loop-k : goal.invariant-loop-k
invariant-loop-k l = record {
  eight : length l.marked ≡ 8;
  marked : (j : ℕ) → get_or l.marked j 0 ≡ cond (is_from_to l.from l.k j) l.line (get_or l.lines j 0);
}
