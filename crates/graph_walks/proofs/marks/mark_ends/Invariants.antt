use Rattle.std.proofs.Common.{◌≡◌, ◌⊎◌, ◌<◌, ℕ, true, false, length, slice_index_or, Contains, All, take}
use Rattle.graph_walks.proofs.marks.mark_ends.Given as goal

-- the ends so far are marked, and no other nodes
abbrev pub invariant-loop-end : goal.invariant-loop-end
invariant-loop-end l = record {
  size : length l.marks ≡ length l.initial.marks;
  marked : All (λ end. slice_index_or l.marks end false ≡ true) (take l.end-index l.ends);
  others : (k : ℕ) → slice_index_or l.marks k false ≡ true → (slice_index_or l.initial.marks k false ≡ true) ⊎ Contains l.ends k;
}
