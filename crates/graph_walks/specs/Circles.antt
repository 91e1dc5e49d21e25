-- Walks that go round and round, and the work that is done on walks (own).
use Rattle.std.specs.Prelude.{ℕ, ◌≡◌, ◌≤◌, ◌<◌, ◌+◌, ◌==◌, ◌&&◌, cond, Bool, true, List, [], ◌∷◌, All, Contains, slice_index_or}
use Rattle.graph_walks.specs.Walks.{Leads}
use Rattle.graph_walks.specs.declared.edge.Edge.{Edge}

-- how much work is done along an edge
abbrev pub work_of : Edge → ℕ
work_of edge = cond edge.busy 1 0

-- the nodes to which busy edges of node k lead
abbrev pub busy_targets : List Edge → ℕ → List ℕ
busy_targets [] k = []
busy_targets (edge ∷ edges) k =
    cond (edge.busy && (edge.from == k)) (edge.to ∷ busy_targets edges k) (busy_targets edges k)

-- a busy edge from which a walk leads back to where it begins
pub record HasBusyCircle (edges : List Edge) : Type 0 where
  pub edge : Edge
  pub among : Contains edges edge
  pub busy : edge.busy ≡ true
  pub back : Leads edges (edge.from ∷ []) edge.to

-- the rank doesn't rise along an edge, and along a busy one it falls
abbrev pub IsRanked : (ℕ → ℕ) → Edge → Type 0
IsRanked rank edge = rank edge.to + work_of edge ≤ rank edge.from

-- the nodes have ranks for which it is so along each edge
pub record HasRanks (edges : List Edge) : Type 0 where
  pub rank : ℕ → ℕ
  pub each : All (IsRanked rank) edges

-- the rank of a node in a list of ranks
abbrev pub rank_in : List ℕ → ℕ → ℕ
rank_in ranks k = slice_index_or ranks k 0

-- on some walk from node k along edges work is done n times
pub data DoesWork (edges : List Edge) : ℕ → ℕ → Type 0 where
  Stays : {n k : ℕ} → n ≡ 0 → DoesWork edges n k
  Goes : {n k : ℕ} (i : ℕ) (edge : Edge) → Contains edges edge → edge.from ≡ k → DoesWork edges i edge.to
      → n ≡ i + work_of edge → DoesWork edges n k

-- from each node there is a walk on which as much work is done as its rank says
abbrev pub AreWalked : List Edge → List ℕ → Type 0
AreWalked edges ranks = (k : ℕ) → DoesWork edges (rank_in ranks k) k

-- on some walk more work is done than so much
pub record HasLongWalk (edges : List Edge) (limit : ℕ) : Type 0 where
  pub from : ℕ
  pub work : ℕ
  pub more : limit < work
  pub walk : DoesWork edges work from
