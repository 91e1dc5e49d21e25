use Rattle.std.proofs.Common.{◌≡◌, ◌≢◌, ◌<◌, ◌≤◌, ℕ, None, All, length, slice_index_or, IfSome}
use Rattle.std.specs.Prelude.{sum}
use Rattle.graph_walks.specs.Circles.{AreWalked, IsRanked, rank_in}
use Rattle.graph_walks.specs.declared.edge.Edge.{Edge}
use Rattle.graph_walks.proofs.ranks.raise_round.Given as goal

-- unless a rank was raised, the edges that were gone through ask for no higher ones
abbrev pub invariant-edges : goal.invariant-edges
invariant-edges l = record {
  few : l.left ≤ length l.edges;
  size : length l.ranks ≡ length l.initial.ranks;
  reasons : length l.reasons ≡ length l.initial.ranks;
  low : All (λ rank. rank ≤ l.limit) l.ranks;
  walked : AreWalked l.edges l.initial.ranks → AreWalked l.edges l.ranks;
  kept : l.raised ≡ None → (k : ℕ) (d : Edge) → l.left ≤ k → k < length l.edges → IsRanked (rank_in l.ranks) (slice_index_or l.edges k d);
  fewer : sum l.initial.ranks ≤ sum l.ranks;
  more : l.raised ≢ None → sum l.initial.ranks < sum l.ranks;
  same : l.raised ≡ None → l.ranks ≡ l.initial.ranks;
  node : IfSome l.raised (λ node. node < length l.initial.ranks);
}

abbrev pub decreases-edges : goal.decreases-edges
decreases-edges l = l.left
