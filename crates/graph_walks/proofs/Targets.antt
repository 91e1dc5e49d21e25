-- The nodes to which edges of a node lead, and busy edges.
use Rattle.std.proofs.Common.{◌≡◌, ◌⊎◌, ◌==◌, ◌&&◌, ℕ, zero, suc, Bool, true, false, cond, List, [], ◌∷◌, Contains, refl, ap, ◌∙◌, subst, arith, inl, inr}
use Rattle.std.proofs.lemmas.Bool.{eq-eqb, eqb-true}
use Rattle.std.proofs.lemmas.List.Elements.{Contains-append_cases, Contains-append_right}
use Rattle.graph_walks.specs.Circles.{busy_targets}
use Rattle.graph_walks.specs.Walks.{targets}
use Rattle.graph_walks.specs.declared.edge.Edge.{Edge}

pub only : {X : Type 0} (x y : X) → Contains (x ∷ []) y → x ≡ y
only x y (zero, lt, at) = at
only x y (suc i, lt, at) = absurd (omega (arith, lt))

there : (b : Bool) (x y : ℕ) (rest : List ℕ) → Contains (cond b (x ∷ rest) rest) y → ((b ≡ true) × (x ≡ y)) ⊎ Contains rest y
there true x y rest has = elim (Contains-append_cases (x ∷ []) rest y has) [
  | inl here ↦ inl (refl, only x y here)
  | inr later ↦ inr later
]
there false x y rest has = inr has

-- an edge that leads to such a node
pub record IsTo (edges : List Edge) (k j : ℕ) : Type 0 where
  pub edge : Edge
  pub among : Contains edges edge
  pub from : edge.from ≡ k
  pub to : edge.to ≡ j

pub target_has : (edges : List Edge) (k j : ℕ) → Contains (targets edges k) j → IsTo edges k j
target_has [] k j (i, lt, at) = absurd (omega (arith, lt))
target_has (e ∷ edges) k j has = elim (there (e.from == k) e.to j (targets edges k) has) [
  | inl here ↦ record { edge = e; among = (0, omega arith, refl); from = eqb-true e.from k here.0; to = here.1 }
  | inr later ↦ let x = target_has edges k j later in record { edge = x.edge; among = Contains-append_right (e ∷ []) edges x.edge x.among; from = x.from; to = x.to }
]

kept : (b : Bool) (x y : ℕ) (rest : List ℕ) → Contains rest y → Contains (cond b (x ∷ rest) rest) y
kept true x y rest has = Contains-append_right (x ∷ []) rest y has
kept false x y rest has = has

taken : (b : Bool) (x : ℕ) (rest : List ℕ) → b ≡ true → Contains (cond b (x ∷ rest) rest) x
taken true x rest is = (0, omega arith, refl)
taken false x rest is = absurd cc

pub has_target : (edges : List Edge) (e : Edge) (k : ℕ) → e.from ≡ k → Contains edges e → Contains (targets edges k) e.to
has_target [] e k from (i, lt, at) = absurd (omega (arith, lt))
has_target (x ∷ edges) e k from has = elim (Contains-append_cases (x ∷ []) edges e has) [
  | inl here ↦ let same = only x e here in
      subst (λ (y : Edge). Contains (targets (x ∷ edges) k) y.to) same (taken (x.from == k) x.to (targets edges k) (eq-eqb x.from k (ap (λ (y : Edge). y.from) same ∙ from)))
  | inr later ↦ kept (x.from == k) x.to e.to (targets edges k) (has_target edges e k from later)
]

-- THE SAME OF BUSY EDGES

busy_there : (b : Bool) (c : Bool) (x y : ℕ) (rest : List ℕ) → Contains (cond (b && c) (x ∷ rest) rest) y → ((b ≡ true) × (c ≡ true) × (x ≡ y)) ⊎ Contains rest y
busy_there true c x y rest has = elim (there c x y rest has) [
  | inl here ↦ inl (refl, here.0, here.1)
  | inr later ↦ inr later
]
busy_there false c x y rest has = inr has

-- a busy edge that leads to such a node
pub record IsBusyTo (edges : List Edge) (k j : ℕ) : Type 0 where
  pub to : IsTo edges k j
  pub busy : to.edge.busy ≡ true

pub busy_target_has : (edges : List Edge) (k j : ℕ) → Contains (busy_targets edges k) j → IsBusyTo edges k j
busy_target_has [] k j (i, lt, at) = absurd (omega (arith, lt))
busy_target_has (e ∷ edges) k j has = elim (busy_there e.busy (e.from == k) e.to j (busy_targets edges k) has) [
  | inl here ↦ record { to = record { edge = e; among = (0, omega arith, refl); from = eqb-true e.from k here.1; to = here.2 }; busy = here.0 }
  | inr later ↦
      let x = busy_target_has edges k j later in
      record { to = record { edge = x.to.edge; among = Contains-append_right (e ∷ []) edges x.to.edge x.to.among; from = x.to.from; to = x.to.to }; busy = x.busy }
]

pub has_busy_target : (edges : List Edge) (e : Edge) (k : ℕ) → e.from ≡ k → e.busy ≡ true → Contains edges e → Contains (busy_targets edges k) e.to
has_busy_target [] e k from busy (i, lt, at) = absurd (omega (arith, lt))
has_busy_target (x ∷ edges) e k from busy has = elim (Contains-append_cases (x ∷ []) edges e has) [
  | inl here ↦ let same = only x e here in
      subst (λ (y : Edge). Contains (busy_targets (x ∷ edges) k) y.to) same
      (taken (x.busy && (x.from == k)) x.to (busy_targets edges k) (and_true x.busy (x.from == k) (ap (λ (y : Edge). y.busy) same ∙ busy) (eq-eqb x.from k (ap (λ (y : Edge). y.from) same ∙ from))))
  | inr later ↦ kept (x.busy && (x.from == k)) x.to e.to (busy_targets edges k) (has_busy_target edges e k from busy later)
]
  where
    and_true : (b c : Bool) → b ≡ true → c ≡ true → b && c ≡ true
    and_true true c is its = its
    and_true false c is its = absurd cc
