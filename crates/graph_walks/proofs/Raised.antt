-- Ranks that are raised along edges.
use Rattle.std.proofs.Common.{◌≡◌, ◌⊎◌, ◌<◌, ◌≤◌, ◌+◌, ◌-◌, ◌*◌, ℕ, Bool, true, false, leb, leb-false, leb-true, List, length, All, Contains, get_or, refl, sym, ap, ◌∙◌, subst, set, inl, inr, arith}
use Rattle.std.specs.Prelude.{sum}
use Rattle.std.proofs.lemmas.Bool.{cases_eq}
use Rattle.std.proofs.lemmas.List.{get_or-replicate, get_or-set_other, get_or-set_same, get_or_past, length-replicate}
use Rattle.std.proofs.lemmas.List.Sums.{sum_by-le, sum_by-set}
use Rattle.std.proofs.Math.ListN.{replicate}
use Rattle.graph_walks.specs.Circles.{AreWalked, DoesWork, rank_in, work_of}
use Rattle.graph_walks.specs.Circles.DoesWork.{Goes, Stays}
use Rattle.graph_walks.specs.declared.edge.Edge.{Edge}

pub within_or_past : (k n : ℕ) → (k < n) ⊎ (n ≤ k)
within_or_past k n = go (leb n k) refl
  where
    go : (b : Bool) → leb n k ≡ b → (k < n) ⊎ (n ≤ k)
    go true is = inr (leb-true n k is)
    go false is = inl (leb-false n k is)

abbrev pub zeros : ℕ → List ℕ
zeros n = replicate n 0

-- where all ranks are 0, no work need be done on a walk
pub zeros_walked : (edges : List Edge) (n : ℕ) (ranks : List ℕ) → ranks ≡ zeros n → AreWalked edges ranks
zeros_walked edges n ranks are k = Stays (ap (λ (ks : List ℕ). get_or ks k 0) are ∙ zero_at (within_or_past k n))
  where
    zero_at : (k < n) ⊎ (n ≤ k) → get_or (zeros n) k 0 ≡ 0
    zero_at (inl lt) = get_or-replicate n k 0 0 lt
    zero_at (inr past) = let size : length (zeros n) ≡ n = length-replicate n 0 in get_or_past (zeros n) k 0 (omega (arith, past, size))

-- the walk that begins with the edge
pub walk_along : (edges : List Edge) (ranks : List ℕ) (edge : Edge) → Contains edges edge → AreWalked edges ranks → DoesWork edges (rank_in ranks edge.to + work_of edge) edge.from
walk_along edges ranks edge among walked = Goes (rank_in ranks edge.to) edge among refl (walked edge.to) refl

-- the node that an edge leaves gets the rank that the edge asks
pub walked_raised : (edges : List Edge) (ranks : List ℕ) (edge : Edge) (rank : ℕ) → edge.from < length ranks → Contains edges edge → rank ≡ rank_in ranks edge.to + work_of edge
    → AreWalked edges ranks → AreWalked edges (set ranks edge.from rank)
walked_raised edges ranks edge rank lt among is walked k = elim (cases_eq k edge.from) [
  | inl same ↦
      let there : rank ≡ get_or (set ranks edge.from rank) k 0 = sym (get_or-set_same ranks edge.from rank 0 lt) ∙ (λ i. get_or (set ranks edge.from rank) (sym same i) 0) in
      subst (λ (n : ℕ). DoesWork edges n k) there
      (subst (λ (j : ℕ). DoesWork edges rank j) (sym same) (subst (λ (n : ℕ). DoesWork edges n edge.from) (sym is) (walk_along edges ranks edge among walked)))
  | inr other ↦ subst (λ (n : ℕ). DoesWork edges n k) (sym (get_or-set_other ranks edge.from k rank 0 other)) (walked k)
]

-- the sum of ranks rises
pub sum_raised : (ranks : List ℕ) (k rank : ℕ) → k < length ranks → get_or ranks k 0 < rank → sum ranks < sum (set ranks k rank)
sum_raised ranks k rank lt higher = let all = sum_by-set (λ x. x) ranks k rank 0 lt in omega (arith, all, higher)

-- and it is no more than this
pub sum_low : (nodes : ℕ) (ranks : List ℕ) → length ranks ≡ nodes → All (λ rank. rank ≤ nodes) ranks → sum ranks ≤ nodes * nodes
sum_low nodes ranks size low = subst (λ (n : ℕ). sum ranks ≤ n * nodes) size (sum_by-le (λ x. x) nodes ranks low)

-- so a sum that rises comes nearer to that
pub nearer : (nodes : ℕ) (ranks ranks' : List ℕ) → length ranks' ≡ nodes → All (λ rank. rank ≤ nodes) ranks' → sum ranks < sum ranks' → nodes * nodes - sum ranks' < nodes * nodes - sum ranks
nearer nodes ranks ranks' size low more = let most = sum_low nodes ranks' size low in omega (arith, most, more)
