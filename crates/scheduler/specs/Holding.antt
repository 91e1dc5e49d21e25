-- Which threads are held and ready, and what holds of them (own).
use Rattle.std.specs.Prelude.{ℕ, ◌==◌, ◌≡◌, ◌≤◌, ◌<◌, Bool, true, List, map, length}
use Rattle.std.specs.List.{AllByRecursion, IsDistinct, list_any}
use Rattle.mach_types.specs.Kernel.Scheduling.{Scheduling, is_of}
use Rattle.mach_types.specs.declared.kernel_words.TheConstants.{MOST_THREADS}

-- the numbers of the threads that are held
abbrev pub held : Scheduling → List ℕ
held s = map (λ pair. pair.0) s.affinities

-- whether a thread is held
abbrev pub is_held : ℕ → Scheduling → Bool
is_held t s = list_any (is_of t) s.affinities

-- whether a thread is ready
abbrev pub is_ready : ℕ → Scheduling → Bool
is_ready t s = list_any (λ u. u == t) s.order

-- a thread is held once, with some of 8 harts, and not more are held than may live; one that is ready is held,
-- and ready once
pub record IsScheduling (s : Scheduling) : Type 0 where
  pub held_once : IsDistinct (λ t u. t == u) (held s)
  pub room : length s.affinities ≤ MOST_THREADS
  pub sets : AllByRecursion (λ pair. pair.1 < 256) s.affinities
  pub ready_once : IsDistinct (λ t u. t == u) s.order
  pub ready_are_held : AllByRecursion (λ t. is_held t s ≡ true) s.order
