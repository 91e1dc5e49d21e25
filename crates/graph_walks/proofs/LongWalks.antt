-- A walk on which more work is done than there are nodes goes round: two of its busy edges leave the same node.
use Rattle.std.proofs.Common.{◌≡◌, ◌⊎◌, ◌<◌, ◌≤◌, ◌-◌, ◌+◌, ℕ, zero, suc, Bool, true, false, cond, List, [], ◌∷◌, length, All, Contains, get_or, refl, sym, ap, ◌∙◌, subst, set, inl, inr, arith}
use Rattle.std.proofs.lemmas.Bool.{cases_eq}
use Rattle.std.proofs.lemmas.List.{get_or-replicate, get_or-set_other, get_or_past, length-replicate, length-set}
use Rattle.std.proofs.lemmas.List.Elements.{All-contains}
use Rattle.std.proofs.lemmas.List.Sums.{count_by-le-length, sum_by-set}
use Rattle.std.proofs.Math.ListN.{replicate}
use Rattle.graph_walks.specs.Circles.{DoesWork, HasBusyCircle, HasLongWalk}
use Rattle.graph_walks.specs.Circles.DoesWork.{Goes, Stays}
use Rattle.graph_walks.specs.Walks.{IsWithin, Leads, count_marks}
use Rattle.graph_walks.specs.Walks.Leads.{Along, There}
use Rattle.graph_walks.specs.declared.edge.Edge.{Edge}
use Rattle.graph_walks.proofs.Raised.{within_or_past}

module _ (edges : List Edge) where
  -- a walk from a node on which so many busy edges are taken, none of them from a marked node
  data Fresh (marks : List Bool) : ℕ → ℕ → Type 0 where
    Ends : {n k : ℕ} → n ≡ 0 → Fresh marks n k
    Passes : {n k : ℕ} (edge : Edge) → Contains edges edge → edge.from ≡ k → Fresh marks n edge.to → Fresh marks n k
    Works : {n k : ℕ} (i : ℕ) (edge : Edge) → Contains edges edge → edge.from ≡ k → edge.busy ≡ true → get_or marks k true ≡ false → Fresh marks i edge.to → n ≡ suc i → Fresh marks n k

  at_itself : (k a : ℕ) → k ≡ a → Contains (a ∷ []) k
  at_itself k a same = subst (Contains (a ∷ [])) (sym same) (0, omega arith, refl)

  -- it comes to a node, or it takes no busy edge from there
  split : (marks : List Bool) (a n k : ℕ) → Fresh marks n k → Leads edges (a ∷ []) k ⊎ Fresh (set marks a true) n k
  split marks a n k (Ends none) = inr (Ends none)
  split marks a n k (Passes edge among from rest) = elim (split marks a n edge.to rest) [
    | inl leads ↦ inl (Along edge among from leads)
    | inr fresh ↦ inr (Passes edge among from fresh)
  ]
  split marks a n k (Works i edge among from busy free rest is) = elim (cases_eq k a) [
    | inl same ↦ inl (There (at_itself k a same))
    | inr other ↦ elim (split marks a i edge.to rest) [
      | inl leads ↦ inl (Along edge among from leads)
      | inr fresh ↦ inr (Works i edge among from busy (get_or-set_other marks a k true true other ∙ free) fresh is)
    ]
  ]

  -- the first busy edge of it, and what follows
  record FirstBusy (marks : List Bool) (n : ℕ) : Type 0 where
    pub edge : Edge
    pub among : Contains edges edge
    pub busy : edge.busy ≡ true
    pub free : get_or marks edge.from true ≡ false
    pub left : ℕ
    pub rest : Fresh marks left edge.to
    pub is : n ≡ suc left

  first_busy : (marks : List Bool) (n k : ℕ) → 0 < n → Fresh marks n k → FirstBusy marks n
  first_busy marks n k some (Ends none) = absurd (omega (arith, some, none))
  first_busy marks n k some (Passes edge among from rest) = first_busy marks n edge.to some rest
  first_busy marks n k some (Works i edge among from busy free rest is) = record {
    edge = edge;
    among = among;
    busy = busy;
    free = subst (λ (j : ℕ). get_or marks j true ≡ false) (sym from) free;
    left = i;
    rest = rest;
    is = is;
  }

  -- A NODE MORE IS MARKED

  abbrev ones : Bool → ℕ
  ones b = cond b 1 0

  -- a node that isn't marked is one of those that can be
  is_within : (marks : List Bool) (k : ℕ) → get_or marks k true ≡ false → k < length marks
  is_within marks k free = elim (within_or_past k (length marks)) [
    | inl lt ↦ lt
    | inr past ↦ let bad : true ≡ false = sym (get_or_past marks k true past) ∙ free in absurd cc
  ]

  one_more_marked : (marks : List Bool) (k : ℕ) → get_or marks k true ≡ false → count_marks (set marks k true) ≡ count_marks marks + 1
  one_more_marked marks k free =
      let all = sum_by-set ones marks k true true (is_within marks k free) in
      let none : ones (get_or marks k true) ≡ 0 = ap ones free in
      omega (arith, all, none)

  -- as many nodes are left as aren't marked; more busy edges are taken than that
  circle : (left : ℕ) (marks : List Bool) (n k : ℕ) → length marks - count_marks marks ≤ left → left < n → Fresh marks n k → HasBusyCircle edges
  circle zero marks n k few many walk =
      let x = first_busy marks n k (omega (arith, many)) walk in
      let more = one_more_marked marks x.edge.from x.free in
      let most = count_by-le-length (λ b. b) (set marks x.edge.from true) in
      let size = length-set marks x.edge.from true in
      absurd (omega (arith, more, most, size, few))
  circle (suc left) marks n k few many walk =
      let x = first_busy marks n k (omega (arith, many)) walk in
      elim (split marks x.edge.from x.left x.edge.to x.rest) [
        | inl leads ↦ record { edge = x.edge; among = x.among; busy = x.busy; back = leads }
        | inr fresh ↦
            let more = one_more_marked marks x.edge.from x.free in
            let size = length-set marks x.edge.from true in
            let is = x.is in
            circle left (set marks x.edge.from true) x.left x.edge.to (omega (arith, more, size, few)) (omega (arith, many, is)) fresh
      ]

  -- WHERE NO NODE IS MARKED

  module _ (nodes : ℕ) (within : All (IsWithin nodes) edges) where
    abbrev none : List Bool
    none = replicate nodes false

    fresh_of : (n k : ℕ) → DoesWork edges n k → Fresh none n k
    fresh_of n k (Stays is) = Ends is
    fresh_of n k (Goes i edge among from rest is) = by_busy edge.busy refl (fresh_of i edge.to rest)
      where
        by_busy : (b : Bool) → edge.busy ≡ b → Fresh none i edge.to → Fresh none n k
        by_busy true busy rest =
            let one : ones edge.busy ≡ 1 = ap ones busy in
            let lt : k < nodes = subst (λ (j : ℕ). j < nodes) from (All-contains (IsWithin nodes) edges edge within among).from in
            Works i edge among from busy (get_or-replicate nodes k false true lt) rest (omega (arith, is, one))
        by_busy false idle rest =
            let nothing : ones edge.busy ≡ 0 = ap ones idle in
            let same : i ≡ n = omega (arith, is, nothing) in
            Passes edge among from (subst (λ (m : ℕ). Fresh none m edge.to) same rest)

    pub goes_round : HasLongWalk edges nodes → HasBusyCircle edges
    goes_round long =
        let size = length-replicate nodes false in
        circle nodes none long.work long.from (omega (arith, size)) long.more (fresh_of long.work long.from long.walk)
