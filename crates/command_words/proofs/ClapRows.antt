-- The rows that `clap` holds: what is found of an id.
use Rattle.std.proofs.Common.{◌≡◌, ◌∙◌, Bool, cond, true, false, List, [], ◌∷◌, ◌++◌, Option, Some, None}
use Rattle.std.proofs.Common.{refl, ap}
use Rattle.std.specs.Prelude.{◌||◌, option_map, option_and_then, slice_get, find}
use Rattle.std.specs.Option.{is_some}
use Rattle.std.specs.Str.{bytes_eq}
use Rattle.clap.specs.Walk.{Row, Text, at_row, first_of, has_row}

-- what is found of an id is this value
abbrev pub Holds : Text → List Row → Option Text → Type 0
Holds id rows value = option_map (λ (r : Row). r.values) (find (λ (r : Row). bytes_eq r.id id) rows)
    ≡ option_map (λ v. v ∷ []) value

-- nothing is found where no row is there, and else a row is there
pub row_there : (id : Text) (rows : List Row) → has_row id rows ≡ is_some (find (λ (r : Row). bytes_eq r.id id) rows)
row_there id [] = refl
row_there id (r ∷ rs) = go (bytes_eq r.id id) (row_there id rs)
  where
    go : (b : Bool) → has_row id rs ≡ is_some (find (λ (r : Row). bytes_eq r.id id) rs)
        → (b || has_row id rs) ≡ is_some (cond b (Some r) (find (λ (r : Row). bytes_eq r.id id) rs))
    go true e = refl
    go false e = e

has_by : (o : Option Row) (value : Option Text) → option_map (λ (r : Row). r.values) o
    ≡ option_map (λ v. v ∷ []) value
    → is_some o ≡ is_some value
has_by None None e = refl
has_by (Some r) (Some v) e = refl
has_by None (Some v) e = absurd cc
has_by (Some r) None e = absurd cc

pub has_held : (id : Text) (rows : List Row) (value : Option Text) → Holds id rows value → has_row id rows
    ≡ is_some value
has_held id rows value holds = row_there id rows ∙ has_by (find (λ (r : Row). bytes_eq r.id id) rows) value holds

one_value : (vs : List Text) (v : Text) → vs ≡ v ∷ [] → slice_get vs 0 ≡ Some v
one_value vs v is = rw is refl

first_by : (o : Option Row) (value : Option Text) → option_map (λ (r : Row). r.values) o
    ≡ option_map (λ v. v ∷ []) value
    → option_and_then (λ (r : Row). slice_get r.values 0) o ≡ value
first_by None None e = refl
first_by (Some r) (Some v) e = let is : r.values ≡ v ∷ [] = cc in one_value r.values v is
first_by None (Some v) e = absurd cc
first_by (Some r) None e = absurd cc

pub first_held : (id : Text) (rows : List Row) (value : Option Text) → Holds id rows value → first_of id rows ≡ value
first_held id rows value holds = first_by (find (λ (r : Row). bytes_eq r.id id) rows) value holds

-- a change of an id that has no row adds a row
pub row_added : (id : Text) (change : Row → List Row) (missing rows : List Row) → has_row id rows ≡ false
    → at_row id change missing rows ≡ rows ++ missing
row_added id change missing [] none = refl
row_added id change missing (r ∷ rs) none = go (bytes_eq r.id id) none (row_added id change missing rs)
  where
    go : (b : Bool) → (b || has_row id rs) ≡ false → (has_row id rs ≡ false → at_row id change missing rs
        ≡ rs ++ missing)
        → cond b (change r ++ rs) (r ∷ at_row id change missing rs) ≡ r ∷ rs ++ missing
    go true e rest = absurd (cc e)
    go false e rest = ap (λ more. r ∷ more) (rest e)

-- what is found with one row more at the end
pub found_before : (id : Text) (rows : List Row) (more : Row) (value : Option Text) → bytes_eq more.id id ≡ false
    → Holds id rows value → Holds id (rows ++ more ∷ []) value
found_before id [] more value other holds = rw other holds
found_before id (r ∷ rs) more value other holds = go (found_before id rs more value other) (bytes_eq r.id id) holds
  where
    go : (Holds id rs value → Holds id (rs ++ more ∷ []) value) → (b : Bool)
        → option_map (λ (r : Row). r.values) (cond b (Some r) (find (λ (r : Row). bytes_eq r.id id) rs))
        ≡ option_map (λ v. v ∷ []) value
        → option_map (λ (r : Row). r.values)
        (cond b (Some r) (find (λ (r : Row). bytes_eq r.id id) (rs ++ more ∷ [])))
        ≡ option_map (λ v. v ∷ []) value
    go later true e = e
    go later false e = later e

pub found_last : (id : Text) (rows : List Row) (more : Row) (v : Text) → bytes_eq more.id id ≡ true
    → more.values ≡ v ∷ []
    → has_row id rows ≡ false → Holds id (rows ++ more ∷ []) (Some v)
found_last id [] more v own is none = rw own (ap Some is)
found_last id (r ∷ rs) more v own is none = go (found_last id rs more v own is) (bytes_eq r.id id) none
  where
    go : (has_row id rs ≡ false → Holds id (rs ++ more ∷ []) (Some v)) → (b : Bool) → (b || has_row id rs) ≡ false
        → option_map (λ (r : Row). r.values)
        (cond b (Some r) (find (λ (r : Row). bytes_eq r.id id) (rs ++ more ∷ []))) ≡ Some (v ∷ [])
    go later true e = absurd (cc e)
    go later false e = later e
