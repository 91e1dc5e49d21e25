-- Rising lists of numbers: the places at which a pass's own entries stand in the log, counted from 0.
use Rattle.std.specs.Prelude.{◌≡◌, ◌⊎◌, ℕ, ◌+◌, ◌-◌, ◌<◌, ◌≤◌, List, [], ◌∷◌, nat_lt, if◌then◌else◌}
use Prim.Native.Nat.{zero, suc}

-- the number stands in the list
abbrev pub In : ℕ → List ℕ → Type 0
In z [] = ⊥
In z (x ∷ xs) = (z ≡ x) ⊎ In z xs

-- no number stands in both
abbrev pub Apart : List ℕ → List ℕ → Type 0
Apart xs ys = (z : ℕ) → In z xs → In z ys → ⊥

-- each number is above the one before it, and the first is at least `low`
abbrev pub RisesFrom : ℕ → List ℕ → Type 0
RisesFrom low [] = Unit {0}
RisesFrom low (x ∷ xs) = (low ≤ x) × RisesFrom (x + 1) xs

-- the numbers rise, and each is below `n`
pub record Owns (mine : List ℕ) (n : ℕ) : Type 0 where
  pub rises : RisesFrom 0 mine
  pub below : (z : ℕ) → In z mine → z < n

-- a number put in its place among rising ones
abbrev pub put_in : ℕ → List ℕ → List ℕ
put_in x [] = x ∷ []
put_in x (y ∷ ys) = if nat_lt x y then x ∷ y ∷ ys else y ∷ put_in x ys

-- the numbers of both lists, in rising order
abbrev pub merge : List ℕ → List ℕ → List ℕ
merge [] ys = ys
merge (x ∷ xs) ys = put_in x (merge xs ys)

-- so many numbers from `first` on
abbrev pub numbers : ℕ → ℕ → List ℕ
numbers first zero = []
numbers first (suc count) = first ∷ numbers (first + 1) count

-- the numbers from `first` on that are below `end`
abbrev pub numbers_below : ℕ → ℕ → List ℕ
numbers_below first end = numbers first (end - first)
