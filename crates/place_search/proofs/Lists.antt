-- Facts of lists that are used here.
use Rattle.std.proofs.Common.{◌≡◌, ℕ, Bool, true, false, cond, Option, Some, None, List, [], ◌∷◌, map, bytes_eq, All, refl, sym, ap, subst}
use Rattle.std.specs.Map.{lookup}
use Rattle.std.specs.Option.{MatchOption}
use Rattle.std.proofs.lemmas.List.Elements.{All-head, All-tail}
use Rattle.std.proofs.lemmas.Slice.Eq.{bytes_eq-Decides}

-- an entry with its key mapped
abbrev pub keyed : {A B X : Type 0} → (A → B) → A × X → B × X
keyed f entry = (f entry.0, entry.1)

-- what a map of keys holds, where they are mapped
pub lookup_map : {A B X : Type 0} (f : A → B) (test : B → Bool) (entries : List (A × X)) → lookup test (map (keyed f) entries) ≡ lookup (λ a. test (f a)) entries
lookup_map f test [] = refl
lookup_map f test (e ∷ entries) = ap (λ r. cond (test (f e.0)) (Some e.1) r) (lookup_map f test entries)

pub at_none : {X : Type 0} (P : Type 0) (Q : X → Type 0) (o : Option X) → MatchOption o P Q → o ≡ None → P
at_none P Q None p is = p
at_none P Q (Some x) p is = absurd cc

-- what holds of all entries holds of one that is found
found_first : {X : Type 0} (b : Bool) (x n : X) (rest : Option X) (Q : Type 0) → cond b (Some x) rest ≡ Some n → (b ≡ true → x ≡ n → Q) → (rest ≡ Some n → Q) → Q
found_first true x n rest Q is here later = here refl cc
found_first false x n rest Q is here later = later is

pub known_has : (P : List ℕ × ℕ → Type 0) (key : List ℕ) (n : ℕ) (keys : List (List ℕ × ℕ)) → All P keys → lookup (bytes_eq key) keys ≡ Some n → P (key, n)
known_has P key n [] all is = absurd cc
known_has P key n (k ∷ keys) all is =
    found_first (bytes_eq key k.0) k.1 n (lookup (bytes_eq key) keys) (P (key, n)) is
    (λ here number. subst (λ (i : ℕ). P (key, i)) number (subst (λ (bytes : List ℕ). P (bytes, k.1)) (sym ((bytes_eq-Decides key k.0).0 here)) (All-head P k keys all)))
    (λ later. known_has P key n keys (All-tail P k keys all) later)
