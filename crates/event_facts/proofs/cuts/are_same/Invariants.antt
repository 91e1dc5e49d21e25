use Rattle.std.proofs.Common.{◌≡◌, ℕ, ◌+◌, ◌<◌, get_or}
use Rattle.event_facts.proofs.cuts.are_same.Given as goal

-- those so far are
abbrev pub invariant-loop-k : goal.invariant-loop-k
invariant-loop-k l = (j : ℕ) → j < l.k → get_or l.lines (l.from + j) 0 ≡ get_or l.lines l.from 0
