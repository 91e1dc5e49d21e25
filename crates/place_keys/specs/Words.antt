-- Values as lists of words. Each list says where it ends: so the words that begin a longer list tell the
-- value, and where the next one begins (own).
use Rattle.std.specs.Prelude.{ℕ, Bool, true, false, List, [], ◌∷◌, ◌++◌, length, Option, Some, None}

abbrev pub word : ℕ → List ℕ
word n = n ∷ []

abbrev pub of_bool : Bool → List ℕ
of_bool false = 0 ∷ []
of_bool true = 1 ∷ []

abbrev pub of_option : {A : Type 0} → (A → List ℕ) → Option A → List ℕ
of_option f None = 0 ∷ []
of_option f (Some a) = 1 ∷ f a

-- the words of each item, one item after the other
abbrev pub of_each : {A : Type 0} → (A → List ℕ) → List A → List ℕ
of_each f [] = []
of_each f (x ∷ xs) = f x ++ of_each f xs

-- a list: how many items it has, and the words of each
abbrev pub of_list : {A : Type 0} → (A → List ℕ) → List A → List ℕ
of_list f xs = length xs ∷ of_each f xs
