-- Walks along edges, and marks of the nodes from which they lead to an end (own).
use Rattle.std.specs.Prelude.{ℕ, ◌≡◌, ◌<◌, ◌==◌, ◌↔◌, cond, Bool, true, false, List, [], ◌∷◌, All, Contains, count_by, slice_index_or}
use Rattle.graph_walks.specs.declared.edge.Edge.{Edge}

-- the nodes to which edges of node k lead
abbrev pub targets : List Edge → ℕ → List ℕ
targets [] k = []
targets (edge ∷ edges) k = cond (edge.from == k) (edge.to ∷ targets edges k) (targets edges k)

-- both nodes of an edge are among the first n
pub record IsWithin (n : ℕ) (edge : Edge) : Type 0 where
  pub from : edge.from < n
  pub to : edge.to < n

-- from a node one of the ends can be reached: it is an end, or an edge leads from it to a node from which one
-- can
pub data Leads (edges : List Edge) (ends : List ℕ) : ℕ → Type 0 where
  There : {k : ℕ} → Contains ends k → Leads edges ends k
  Along : {k : ℕ} (edge : Edge) → Contains edges edge → edge.from ≡ k → Leads edges ends edge.to
      → Leads edges ends k

-- a node is marked
abbrev pub IsMarked : List Bool → ℕ → Type 0
IsMarked marks k = slice_index_or marks k false ≡ true

-- the nodes that are marked are those from which an end can be reached
abbrev pub AreMarks : List Edge → List ℕ → List Bool → Type 0
AreMarks edges ends marks = (k : ℕ) → IsMarked marks k ↔ Leads edges ends k

-- from each node that is marked an end can be reached
abbrev pub AreLed : List Edge → List ℕ → List Bool → Type 0
AreLed edges ends marks = (k : ℕ) → IsMarked marks k → Leads edges ends k

-- where the node to which an edge leads is marked, the one that it leaves is too
abbrev pub IsClosedAt : List Bool → Edge → Type 0
IsClosedAt marks edge = IsMarked marks edge.to → IsMarked marks edge.from

abbrev pub AreClosed : List Edge → List Bool → Type 0
AreClosed edges marks = All (IsClosedAt marks) edges

-- how many nodes are marked
abbrev pub count_marks : List Bool → ℕ
count_marks marks = count_by (λ b. b) marks
