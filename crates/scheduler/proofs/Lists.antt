-- What each element of a list has, and tests of which neither holds.
use Rattle.std.proofs.Common.{◌≡◌, ℕ, Bool, true, false, ◌||◌, List, [], ◌∷◌, eqb, refl, sym, subst}
use Rattle.std.specs.List.{AllByRecursion, list_any}
use Rattle.std.proofs.lemmas.Bool.{false≢true}
use Rattle.std.proofs.lemmas.Bool.Decides.{Decides-eqb}

pub neither : (a b : Bool) → (a || b) ≡ false → (a ≡ false) × (b ≡ false)
neither true b e = absurd (false≢true (sym e))
neither false b e = (refl, e)

-- a number that stands in the list has what each element has
pub at_member : (P : ℕ → Type 0) (xs : List ℕ) (n : ℕ) → AllByRecursion P xs → list_any (eqb n) xs ≡ true → P n
at_member P [] n each e = absurd (false≢true e)
at_member P (x ∷ xs) n each e = go (eqb n x) refl e (at_member P xs n each.1)
  where
    go : (b : Bool) → eqb n x ≡ b → (b || list_any (eqb n) xs) ≡ true → (list_any (eqb n) xs ≡ true → P n) → P n
    go true same found rest = subst P (sym ((Decides-eqb n x).0 same)) each.0
    go false same found rest = rest found
