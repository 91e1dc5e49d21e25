-- The first element that passes a test.
use Rattle.std.proofs.Common.{◌≡◌, ℕ, Bool, true, false, ◌||◌, cond, List, [], ◌∷◌, find, Some, None, eqb, refl, sym, ap, ◌∙◌}
use Rattle.std.specs.Cmp.{nat_eq_equiv}
use Rattle.std.specs.List.{list_any}
use Rattle.std.proofs.lemmas.Bool.Decides.{Decides-eqb}

module _ {X : Type 0} (test : X → Bool) where
  -- what is found passes
  pub found_passes : (xs : List X) (x : X) → find test xs ≡ Some x → test x ≡ true
  found_passes [] x e = cc
  found_passes (y ∷ ys) x e = go (test y) refl e (found_passes ys x)
    where
      go : (b : Bool) → test y ≡ b → cond b (Some y) (find test ys) ≡ Some x → (find test ys ≡ Some x → test x ≡ true) → test x ≡ true
      go true passes here rest =
          let same : y ≡ x = cc in
          ap test (sym same) ∙ passes
      go false fails later rest = rest later

or_true : (a b : Bool) → b ≡ true → (a || b) ≡ true
or_true true b e = refl
or_true false b e = e

-- and stands in the list
pub found_stands : (test : ℕ → Bool) (xs : List ℕ) (n : ℕ) → find test xs ≡ Some n → list_any (λ u. eqb u n) xs ≡ true
found_stands test [] n e = cc
found_stands test (x ∷ xs) n e = go (test x) e (found_stands test xs n)
  where
    go : (b : Bool) → cond b (Some x) (find test xs) ≡ Some n → (find test xs ≡ Some n → list_any (λ u. eqb u n) xs ≡ true)
        → (eqb x n || list_any (λ u. eqb u n) xs) ≡ true
    go true here rest =
        let same : x ≡ n = cc in
        ap (λ b. b || list_any (λ u. eqb u n) xs) (ap (λ m. eqb m n) same ∙ nat_eq_equiv.refl n)
    go false later rest = or_true (eqb x n) (list_any (λ u. eqb u n) xs) (rest later)

-- where nothing is found, what stands in the list fails
pub none_found : (test : ℕ → Bool) (xs : List ℕ) (n : ℕ) → find test xs ≡ None → list_any (λ u. eqb u n) xs ≡ true → test n ≡ false
none_found test [] n e stands = cc
none_found test (x ∷ xs) n e stands = go (test x) refl (eqb x n) refl e stands (none_found test xs n)
  where
    go : (b : Bool) → test x ≡ b → (c : Bool) → eqb x n ≡ c → cond b (Some x) (find test xs) ≡ None → (c || list_any (λ u. eqb u n) xs) ≡ true
        → (find test xs ≡ None → list_any (λ u. eqb u n) xs ≡ true → test n ≡ false) → test n ≡ false
    go true passes c same e stands rest = cc
    go false fails true same e stands rest = ap test (sym ((Decides-eqb x n).0 same)) ∙ fails
    go false fails false other e stands rest = rest e stands
