use Rattle.std.proofs.Common.{◌≡◌, ◌≤◌, ◌-◌, ◌*◌, All, length}
use Rattle.std.specs.Prelude.{sum}
use Rattle.graph_walks.specs.Circles.{AreWalked}
use Rattle.graph_walks.proofs.circles.look.Given as goal

-- each rank is that of a walk
abbrev pub invariant-rounds : goal.invariant-rounds
invariant-rounds l = record {
  size : length l.ranks ≡ l.nodes;
  reasons : length l.reasons ≡ l.nodes;
  low : All (λ rank. rank ≤ l.nodes) l.ranks;
  walked : AreWalked l.edges l.ranks;
}

abbrev pub decreases-rounds : goal.decreases-rounds
decreases-rounds l = l.nodes * l.nodes - sum l.ranks
