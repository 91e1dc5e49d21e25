-- Which threads are ready, in which order, and on which harts each may run (sched_setaffinity(2)). That a thread which becomes
-- ready is the last one is own.
use Rattle.std.specs.Prelude.{ℕ, ◌-◌, ◌/◌, ◌%◌, ◌^◌, ◌==◌, Bool, not, List, [], ◌∷◌, ◌++◌, map, filter, find, if◌then◌else◌, Option, bit_and}
use Rattle.std.specs.Option.{option_map_or}

-- the numbers of the ready threads in order, and of each live thread its number and the set of its harts: bit h stands for
-- hart h
pub record Scheduling : Type 0 where
  pub order : List ℕ
  pub affinities : List (ℕ × ℕ)

-- the set of the first so many harts
abbrev pub all_harts : ℕ → ℕ
all_harts harts = 2 ^ harts - 1

-- whether a hart is in a set
abbrev pub has_hart : ℕ → ℕ → Bool
has_hart set h = (set / 2 ^ h) % 2 == 1

-- at the start thread 1 is ready, and may run on all harts
abbrev pub start_scheduling : ℕ → Scheduling
start_scheduling harts = record { order = 1 ∷ []; affinities = (1, all_harts harts) ∷ [] }

abbrev pub is_of : ℕ → ℕ × ℕ → Bool
is_of t pair = pair.0 == t

-- the harts of a thread; none where it isn't live
abbrev pub affinity_of : ℕ → Scheduling → ℕ
affinity_of t s = option_map_or (λ pair. pair.1) (find (is_of t) s.affinities) 0

-- a new thread has its parent's harts
abbrev pub with_thread : ℕ → ℕ → Scheduling → Scheduling
with_thread parent t s = record s { affinities = s.affinities ++ (t, affinity_of parent s) ∷ [] }

-- a thread that ended is forgotten
abbrev pub forget : ℕ → Scheduling → Scheduling
forget t s = record s { affinities = filter (λ pair. not (is_of t pair)) s.affinities }

-- a thread becomes ready, as the last one
abbrev pub with_ready : ℕ → Scheduling → Scheduling
with_ready t s = record s { order = s.order ++ t ∷ [] }

-- a thread isn't ready any more
abbrev pub without_ready : ℕ → Scheduling → Scheduling
without_ready t s = record s { order = filter (λ u. not (u == t)) s.order }

-- the first ready thread that may run on a hart
abbrev pub first_for : ℕ → Scheduling → Option ℕ
first_for h s = find (λ t. has_hart (affinity_of t s) h) s.order

-- the harts of a thread become those of the machine's harts that are in a set
abbrev pub set_if : ℕ → ℕ → ℕ × ℕ → ℕ × ℕ
set_if t set pair = if is_of t pair then (t, set) else pair

abbrev pub with_affinity : ℕ → ℕ → Scheduling → Scheduling
with_affinity t set s = record s { affinities = map (set_if t set) s.affinities }

-- those harts of the machine that are in a set
abbrev pub harts_in : ℕ → ℕ → ℕ
harts_in set harts = bit_and set (all_harts harts)
