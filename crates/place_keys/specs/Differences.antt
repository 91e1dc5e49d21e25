-- Numbers as far as they differ from those at a start, as a list of words (own).
use Rattle.std.specs.Prelude.{ℕ, ◌≡◌, ◌≤◌, ◌+◌, ◌-◌, ◌==◌, List, [], ◌∷◌, ◌++◌, if◌then◌else◌, length, slice_index, zero, suc}

-- where numbers differ from those at a start, among so many from number k on: for each that differs, how many
-- were passed since the last one that did, with one added, and the number; and then 0
unfoldable pub differences : (ℕ → ℕ) → (ℕ → ℕ) → ℕ → ℕ → ℕ → List ℕ
differences start now passed k zero = 0 ∷ []
differences start now passed k (suc more) =
    if now k == start k then differences start now (passed + 1) (k + 1) more
    else (passed + 1) ∷ now k ∷ differences start now 0 (k + 1) more

-- a list of words many of which may be 0: how many it has, and those that aren't 0
abbrev pub sparse_words : List ℕ → List ℕ
sparse_words xs = length xs ∷ differences (λ k. 0) (slice_index xs) 0 0 (length xs)

-- how far differences have been written: the words so far, the place past the last number that differs, and
-- the place that comes next
pub record Written : Type 0 where
  pub words : List ℕ
  pub past : ℕ
  pub next : ℕ

-- the differences at the places between two such states have been written: the words at the second, with what
-- is left to write there, are the words at the first with what was left there, however many places are to
-- come
pub record IsWrittenOn (start now : ℕ → ℕ) (from to : Written) : Type 0 where
  pub order : to.past ≤ to.next
  pub all : (more : ℕ) → to.words ++ differences start now (to.next - to.past) to.next more
      ≡ from.words ++ differences start now (from.next - from.past) from.next (to.next - from.next + more)
