use Rattle.std.proofs.Common.{◌≡◌, ◌<◌, ◌≤◌, ℕ, List, true, false, length, slice_index_or}
use Rattle.graph_walks.specs.Walks.{AreLed, IsClosedAt, count_marks}
use Rattle.graph_walks.specs.declared.edge.Edge.{Edge}
use Rattle.graph_walks.proofs.marks.mark_round.Given as goal

-- unless a node was marked, the edges that were gone through lead from no other node to a marked one
abbrev pub invariant-edges : goal.invariant-edges
invariant-edges l = record {
  few : l.left ≤ length l.edges;
  size : length l.marks ≡ length l.initial.marks;
  led : (ends : List ℕ) → AreLed l.edges ends l.initial.marks → AreLed l.edges ends l.marks;
  closed : l.marked ≡ false → (k : ℕ) (d : Edge) → l.left ≤ k → k < length l.edges → IsClosedAt l.marks (slice_index_or l.edges k d);
  same : l.marked ≡ false → l.marks ≡ l.initial.marks;
  fewer : count_marks l.initial.marks ≤ count_marks l.marks;
  more : l.marked ≡ true → count_marks l.initial.marks < count_marks l.marks;
  keeps : (k : ℕ) → slice_index_or l.initial.marks k false ≡ true → slice_index_or l.marks k false ≡ true;
}

abbrev pub decreases-edges : goal.decreases-edges
decreases-edges l = l.left
