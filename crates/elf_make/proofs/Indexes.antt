-- The first place at which a test of elements beside their indexes passes.
use Rattle.std.proofs.Common.{◌≡◌, ℕ, ◌+◌, ◌<◌, Bool, true, false, List, length, get_or, Some, None, inl, inr, sym, ap, ◌∙◌, arith}
use Rattle.std.specs.List.{enumerate_from, position}
use Rattle.std.proofs.lemmas.List.FromFn.{get_or-enumerate_from, length-enumerate_from}
use Rattle.std.proofs.lemmas.Bool.{cases_lt}
use Rattle.std.proofs.lemmas.List.{get_or_default}
use Rattle.elf_load.proofs.Laws.{position-at, position-never, position-none}

indexed : {X : Type 0} (p : ℕ × X → Bool) (xs : List X) (k : ℕ) (d : X) (b : Bool) → k < length xs → p (k, get_or xs k d) ≡ b → p (get_or (enumerate_from 0 xs) k (0, d)) ≡ b
indexed p xs k d b lt e =
    let place : 0 + k ≡ k = omega arith in
    ap p (get_or-enumerate_from 0 xs k (0, d) lt) ∙ ap (λ (j : ℕ). p (j, get_or xs k d)) place ∙ e

pub indexed-at : {X : Type 0} (p : ℕ × X → Bool) (xs : List X) (k : ℕ) (d : X) → k < length xs → p (k, get_or xs k d) ≡ true → ((j : ℕ) → j < k → p (j, get_or xs j d) ≡ false) → position p (enumerate_from 0 xs) ≡ Some k
indexed-at p xs k d lt here before =
    position-at p (enumerate_from 0 xs) k (0, d) (omega (arith, length-enumerate_from 0 xs)) (indexed p xs k d true lt here) (λ j h. indexed p xs j d false (omega arith) (before j h))

pub indexed-none : {X : Type 0} (p : ℕ × X → Bool) (xs : List X) (d : X) → ((k : ℕ) → k < length xs → p (k, get_or xs k d) ≡ false) → position p (enumerate_from 0 xs) ≡ None
indexed-none p xs d never =
    position-none p (enumerate_from 0 xs) (0, d) (λ k h. let lt : k < length xs = omega (arith, length-enumerate_from 0 xs) in indexed p xs k d false lt (never k lt))

pub indexed-never : {X : Type 0} (p : ℕ × X → Bool) (xs : List X) → position p (enumerate_from 0 xs) ≡ None → (k : ℕ) (d : X) → k < length xs → p (k, get_or xs k d) ≡ false
indexed-never p xs none k d lt =
    let place : 0 + k ≡ k = omega arith in
    ap (λ (j : ℕ). p (j, get_or xs k d)) (sym place) ∙ sym (ap p (get_or-enumerate_from 0 xs k (0, d) lt)) ∙ position-never p (enumerate_from 0 xs) none k (0, d) (omega (arith, length-enumerate_from 0 xs))

-- one place more at which the test fails
pub indexed-more : {X : Type 0} (p : ℕ × X → Bool) (xs : List X) (k : ℕ) (e : X) → k < length xs → ((j : ℕ) (d : X) → j < k → p (j, get_or xs j d) ≡ false) → p (k, get_or xs k e) ≡ false → (j : ℕ) (d : X) → j < k + 1 → p (j, get_or xs j d) ≡ false
indexed-more {X = X} p xs k e lt before here j d more = elim (cases_lt j k) [
  | inl earlier ↦ before j d earlier
  | inr at ↦
      let same : j ≡ k = omega arith in
      ap (λ (i : ℕ). p (i, get_or xs i d)) same ∙ ap (λ (x : X). p (k, x)) (get_or_default xs k d e lt) ∙ here
]
