-- The concurrency ids of the threads of a process (rseq(2), `mm_cid`): a thread holds one while it runs, the least that no other
-- running thread holds when it begins to (the least: own). A set of ids has a bit for each, as a set of harts has.
use Rattle.std.specs.Prelude.{ℕ, ◌<◌, ◌≤◌, ◌≡◌, ◌==◌, Bool, true, false, not, List, [], ◌∷◌, ◌++◌, length, map, filter, find, All, if◌then◌else◌}
use Rattle.std.specs.Option.{option_map_or}
use Rattle.std.specs.List.{list_any}
use Rattle.mach_types.specs.Kernel.Threads.{Threads, is_running_state, state_of, times}
use Rattle.mach_types.specs.Kernel.Areas.{concurrency_ids, lowest_cid}
use Rattle.mach_types.specs.Kernel.Barriers.{harts_that}

abbrev pub is_id_of : ℕ → ℕ × ℕ → Bool
is_id_of t pair = pair.0 == t

-- whether thread t runs on some hart
abbrev pub is_running : ℕ → Threads → Bool
is_running t ts = option_map_or is_running_state (state_of t ts) false

-- the id that thread t holds; 0 where it holds none
abbrev pub id_of : ℕ → List (ℕ × ℕ) → ℕ
id_of t ids = option_map_or (λ pair. pair.1) (find (is_id_of t) ids) 0

-- whether a thread holds this id, and the set of the ids that are held
abbrev pub is_taken : List (ℕ × ℕ) → ℕ → Bool
is_taken ids id = list_any (λ pair. pair.1 == id) ids

abbrev pub held_ids : List (ℕ × ℕ) → ℕ
held_ids ids = harts_that (is_taken ids) (length concurrency_ids)

-- the id of the next thread that begins to run
abbrev pub next_id : List (ℕ × ℕ) → ℕ
next_id ids = lowest_cid (held_ids ids)

-- an id is the least that no thread holds
pub record IsLeastFree (ids : List (ℕ × ℕ)) (id : ℕ) : Type 0 where
  pub free : is_taken ids id ≡ false
  pub least : (less : ℕ) → less < id → is_taken ids less ≡ true

-- thread t begins to run, and holds an id; and it holds none any more
abbrev pub with_id : ℕ → List (ℕ × ℕ) → List (ℕ × ℕ)
with_id t ids = ids ++ (t, next_id ids) ∷ []

abbrev pub without_id : ℕ → List (ℕ × ℕ) → List (ℕ × ℕ)
without_id t ids = filter (λ pair. not (is_id_of t pair)) ids

-- each thread that runs holds one id, which is below 8, and no other thread holds one; no id is held twice
pub record AreIdsApart (ts : Threads) (ids : List (ℕ × ℕ)) : Type 0 where
  pub held : (t : ℕ) → times t (map (λ pair. pair.0) ids) ≡ (if is_running t ts then 1 else 0)
  pub apart : (n : ℕ) → times n (map (λ pair. pair.1) ids) ≤ 1
  pub small : All (λ pair. pair.1 < length concurrency_ids) ids
