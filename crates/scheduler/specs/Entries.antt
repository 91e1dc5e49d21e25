-- The harts of a thread, by the entries of the threads that are held, and the entries of those that are ready (own).
use Rattle.std.specs.Prelude.{ℕ, ◌≡◌, ◌==◌, ◌-◌, ◌%◌, ◌^◌, ◌&&◌, Bool, true, IsTrue, List, map, find, length, nat_lt}
use Rattle.std.specs.List.{AllByRecursion, IsDistinct, slice_get}
use Rattle.std.specs.List.Sorted.{IsStrictlyIncreasing}
use Rattle.std.specs.Option.{option_map_or}
use Rattle.mach_types.specs.Kernel.Scheduling.{Scheduling, has_hart, is_of}
use Rattle.scheduler.specs.Holding.{IsScheduling}

-- the numbers of entries, and that no two are the same
abbrev pub numbers : List (ℕ × ℕ) → List ℕ
numbers entries = map (λ entry. entry.0) entries

abbrev pub stand_once : List (ℕ × ℕ) → Type 0
stand_once entries = IsDistinct (λ t u. t == u) (numbers entries)

-- the harts of a thread; none where it has no entry
abbrev pub set_among : List (ℕ × ℕ) → ℕ → ℕ
set_among entries t = option_map_or (λ entry. entry.1) (find (is_of t) entries) 0

-- whether an entry is that of a thread that may run on a hart
abbrev pub is_for : ℕ → ℕ × ℕ → Bool
is_for h entry = has_hart entry.1 h

-- the same of one that may run on none of the first so many harts
abbrev pub is_only_for : ℕ → ℕ → ℕ × ℕ → Bool
is_only_for h barred entry = has_hart entry.1 h && (entry.1 % 2 ^ barred == 0)

-- whether a number is above that of the last entry
abbrev pub is_last : ℕ → List (ℕ × ℕ) → Bool
is_last t entries = option_map_or (λ entry. nat_lt entry.0 t) (slice_get entries (length entries - 1)) true

-- where the entries are marked as rising, their numbers rise
abbrev pub IsMarked : Bool → List (ℕ × ℕ) → Type 0
IsMarked rising entries = IsTrue rising → IsStrictlyIncreasing (numbers entries)

-- the ready list and the affinities that entries stand for
abbrev pub scheduling_in : List (ℕ × ℕ) → List (ℕ × ℕ) → Scheduling
scheduling_in order held = record { order = numbers order; affinities = held }

-- what holds of the entries of the ready threads and of those that are held: the entry of a ready thread has the harts
-- that its thread is held with
pub record IsKept (order held : List (ℕ × ℕ)) : Type 0 where
  pub whole : IsScheduling (scheduling_in order held)
  pub sets : AllByRecursion (λ entry. entry.1 ≡ set_among held entry.0) order
