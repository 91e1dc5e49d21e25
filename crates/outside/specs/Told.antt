-- What a shelf or a sink tells of its bytes. A device tells nothing, and then nothing is claimed. (own)
use Rattle.std.specs.Prelude.{◌≡◌, ℕ, ◌≤◌, ◌++◌, List, Option, IfSome, IsSomeAnd, length, take}

-- what the sink holds, if it is told after, was told before, and grew by these bytes
abbrev pub Gained : Option (List ℕ) → Option (List ℕ) → List ℕ → Type 0
Gained old new bytes = IfSome new (λ after. IsSomeAnd old (λ before. after ≡ before ++ bytes))

-- it grew by a prefix of these bytes
abbrev pub GainedPrefix : Option (List ℕ) → Option (List ℕ) → List ℕ → Type 0
GainedPrefix old new bytes = (n : ℕ) × (n ≤ length bytes) × Gained old new (take n bytes)

-- what was left of a file, if it is told, was these bytes and then what is left now, which is told
abbrev pub Moved : Option (List ℕ) → Option (List ℕ) → List ℕ → Type 0
Moved old new bytes = IfSome old (λ before. IsSomeAnd new (λ after. before ≡ bytes ++ after))
