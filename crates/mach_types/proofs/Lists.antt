-- Lists whose elements have keys: a map after another, a change at one key, and a filter of one key.
use Rattle.std.proofs.Common.{ℕ, ◌≡◌, ◌≢◌, Bool, true, false, not, cond, eqb, List, [], ◌∷◌, ◌++◌, map, filter, find, Option, Some, None, refl, sym, ap, ◌∙◌, arith}
use Rattle.std.specs.Option.{option_map}
use Rattle.std.proofs.lemmas.Bool.Decides.{nat_tests}

-- a map of changed elements
pub map_commutes : {X Y : Type 0} (f : X → Y) (g : X → X) (h : Y → Y) → ((x : X) → f (g x) ≡ h (f x)) → (xs : List X) → map f (map g xs) ≡ map h (map f xs)
map_commutes f g h same [] = refl
map_commutes f g h same (x ∷ xs) = let rest = map_commutes f g h same xs in (λ i. same x i ∷ rest i)

pub map_stays : {X Y : Type 0} (f : X → Y) (g : X → X) → ((x : X) → f (g x) ≡ f x) → (xs : List X) → map f (map g xs) ≡ map f xs
map_stays f g same [] = refl
map_stays f g same (x ∷ xs) = let rest = map_stays f g same xs in (λ i. same x i ∷ rest i)

-- a map of what passes a test, and what is found in a map
pub map_filters : {X Y : Type 0} (f : X → Y) (p : Y → Bool) (xs : List X) → map f (filter (λ x. p (f x)) xs) ≡ filter p (map f xs)
map_filters f p [] = refl
map_filters f p (x ∷ xs) =
    elim (p (f x)) as (λ b. map f (cond b (x ∷ filter (λ y. p (f y)) xs) (filter (λ y. p (f y)) xs)) ≡ cond b (f x ∷ filter p (map f xs)) (filter p (map f xs)))
    [ true ↦ ap (λ ys. f x ∷ ys) (map_filters f p xs) | false ↦ map_filters f p xs ]

pub map_finds : {X Y : Type 0} (f : X → Y) (p : Y → Bool) (xs : List X) → find p (map f xs) ≡ option_map f (find (λ x. p (f x)) xs)
map_finds f p [] = refl
map_finds f p (x ∷ xs) =
    elim (p (f x)) as (λ b. cond b (Some (f x)) (find p (map f xs)) ≡ option_map f (cond b (Some x) (find (λ y. p (f y)) xs)))
    [ true ↦ refl | false ↦ map_finds f p xs ]

-- a number that is one number isn't another
pub differs : (k t u : ℕ) → u ≢ t → eqb k t ≡ true → eqb k u ≡ false
differs k t u other is = grind (arith, nat_tests)

module _ {X : Type 0} (key : X → ℕ) where
  -- a change at one key, that keeps the key, is found at that key, and nowhere else
  changed_same_step : (f : X → X) → ((x : X) → key (f x) ≡ key x) → (t : ℕ) (x : X) (b : Bool) → eqb (key x) t ≡ b → (found changed : Option X)
      → changed ≡ option_map f found → cond (eqb (key (cond b (f x) x)) t) (Some (cond b (f x) x)) changed ≡ option_map f (cond b (Some x) found)
  changed_same_step f keeps t x true e found changed h =
      ap (λ k. cond (eqb k t) (Some (f x)) changed) (keeps x) ∙ ap (λ c. cond c (Some (f x)) changed) e
  changed_same_step f keeps t x false e found changed h = ap (λ c. cond c (Some x) changed) e ∙ h

  pub changed_same : (f : X → X) → ((x : X) → key (f x) ≡ key x) → (t : ℕ) (xs : List X)
      → find (λ x. eqb (key x) t) (map (λ x. cond (eqb (key x) t) (f x) x) xs) ≡ option_map f (find (λ x. eqb (key x) t) xs)
  changed_same f keeps t [] = refl
  changed_same f keeps t (x ∷ xs) =
      changed_same_step f keeps t x (eqb (key x) t) refl (find (λ y. eqb (key y) t) xs) (find (λ y. eqb (key y) t) (map (λ y. cond (eqb (key y) t) (f y) y) xs)) (changed_same f keeps t xs)

  changed_other_step : (f : X → X) → ((x : X) → key (f x) ≡ key x) → (t u : ℕ) → u ≢ t → (x : X) (b : Bool) → eqb (key x) t ≡ b → (found changed : Option X)
      → changed ≡ found → cond (eqb (key (cond b (f x) x)) u) (Some (cond b (f x) x)) changed ≡ cond (eqb (key x) u) (Some x) found
  changed_other_step f keeps t u other x true e found changed h =
      ap (λ k. cond (eqb k u) (Some (f x)) changed) (keeps x) ∙ ap (λ c. cond c (Some (f x)) changed) (differs (key x) t u other e) ∙ h
      ∙ sym (ap (λ c. cond c (Some x) found) (differs (key x) t u other e))
  changed_other_step f keeps t u other x false e found changed h = ap (λ o. cond (eqb (key x) u) (Some x) o) h

  pub changed_other : (f : X → X) → ((x : X) → key (f x) ≡ key x) → (t u : ℕ) → u ≢ t → (xs : List X)
      → find (λ x. eqb (key x) u) (map (λ x. cond (eqb (key x) t) (f x) x) xs) ≡ find (λ x. eqb (key x) u) xs
  changed_other f keeps t u other [] = refl
  changed_other f keeps t u other (x ∷ xs) =
      changed_other_step f keeps t u other x (eqb (key x) t) refl (find (λ y. eqb (key y) u) xs) (find (λ y. eqb (key y) u) (map (λ y. cond (eqb (key y) t) (f y) y) xs)) (changed_other f keeps t u other xs)

  -- what is filtered out isn't found, and all else is
  filtered_same_step : (t : ℕ) (x : X) (b : Bool) → eqb (key x) t ≡ b → (rest : List X) → find (λ y. eqb (key y) t) rest ≡ None
      → find (λ y. eqb (key y) t) (cond (not b) (x ∷ rest) rest) ≡ None
  filtered_same_step t x true e rest h = h
  filtered_same_step t x false e rest h = ap (λ c. cond c (Some x) (find (λ y. eqb (key y) t) rest)) e ∙ h

  pub filtered_same : (t : ℕ) (xs : List X) → find (λ x. eqb (key x) t) (filter (λ x. not (eqb (key x) t)) xs) ≡ None
  filtered_same t [] = refl
  filtered_same t (x ∷ xs) = filtered_same_step t x (eqb (key x) t) refl (filter (λ y. not (eqb (key y) t)) xs) (filtered_same t xs)

  filtered_other_step : (t u : ℕ) → u ≢ t → (x : X) (b : Bool) → eqb (key x) t ≡ b → (rest : List X) (found : Option X) → find (λ y. eqb (key y) u) rest ≡ found
      → find (λ y. eqb (key y) u) (cond (not b) (x ∷ rest) rest) ≡ cond (eqb (key x) u) (Some x) found
  filtered_other_step t u other x true e rest found h = h ∙ sym (ap (λ c. cond c (Some x) found) (differs (key x) t u other e))
  filtered_other_step t u other x false e rest found h = ap (λ o. cond (eqb (key x) u) (Some x) o) h

  pub filtered_other : (t u : ℕ) → u ≢ t → (xs : List X) → find (λ x. eqb (key x) u) (filter (λ x. not (eqb (key x) t)) xs) ≡ find (λ x. eqb (key x) u) xs
  filtered_other t u other [] = refl
  filtered_other t u other (x ∷ xs) =
      filtered_other_step t u other x (eqb (key x) t) refl (filter (λ y. not (eqb (key y) t)) xs) (find (λ y. eqb (key y) u) xs) (filtered_other t u other xs)

at_end_step : {X : Type 0} (p : X → Bool) (y : X) (ys : List X) (x : X) (b : Bool) → cond b (Some y) (find p ys) ≡ None
    → (find p ys ≡ None → p x ≡ true → find p (ys ++ x ∷ []) ≡ Some x) → p x ≡ true → cond b (Some y) (find p (ys ++ x ∷ [])) ≡ Some x
at_end_step p y ys x true none rest is = let no : ⊥ = cc in absurd no
at_end_step p y ys x false none rest is = rest none is

-- what is found at the end of a list, where it isn't found before, and what isn't there
pub found_at_end : {X : Type 0} (p : X → Bool) (xs : List X) (x : X) → find p xs ≡ None → p x ≡ true → find p (xs ++ x ∷ []) ≡ Some x
found_at_end p [] x none is = ap (λ b. cond b (Some x) None) is
found_at_end p (y ∷ ys) x none is = at_end_step p y ys x (p y) none (found_at_end p ys x) is

pub not_at_end : {X : Type 0} (p : X → Bool) (xs : List X) (x : X) → p x ≡ false → find p (xs ++ x ∷ []) ≡ find p xs
not_at_end p [] x isnt = ap (λ b. cond b (Some x) None) isnt
not_at_end p (y ∷ ys) x isnt = ap (λ o. cond (p y) (Some y) o) (not_at_end p ys x isnt)
