-- Counts of faults. A fault of a device can't be seen from outside, but its count can: a count never
-- falls, and an answer that blames the device comes only where the count rose in that call. (own)
use Rattle.std.specs.Prelude.{◌≡◌, ℕ, ◌+◌, ◌-◌, ◌^◌, min, ◌<◌, ◌≤◌, List, Option, MatchOption}

-- where a count stops
abbrev pub most_faults : ℕ
most_faults = 2 ^ 64 - 1

-- one more, up to where counts stop
abbrev pub counted : ℕ → ℕ
counted n = min (n + 1) most_faults

-- the count rose. One that stood where counts stop can't rise any more, and counts as risen
abbrev pub Rose : ℕ → ℕ → Type 0
Rose old new = old < most_faults → old < new

-- the count isn't below what it was, and it stays where counts stop
abbrev pub NeverFalls : ℕ → ℕ → Type 0
NeverFalls old new = (old ≤ new) × (most_faults ≤ old → new ≡ old)

-- that, for the count of each name
abbrev pub NoneFalls : (List ℕ → ℕ) → (List ℕ → ℕ) → Type 0
NoneFalls old new = (name : List ℕ) → NeverFalls (old name) (new name)

-- the count of the started name rose, or the count of every name where the started name isn't told
abbrev pub StartedRose : Option (List ℕ) → (List ℕ → ℕ) → (List ℕ → ℕ) → Type 0
StartedRose started old new =
    MatchOption started ((name : List ℕ) → Rose (old name) (new name)) (λ name. Rose (old name) (new name))
