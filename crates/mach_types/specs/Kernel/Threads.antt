-- The threads of a process, as plain values (clone(2), exit(2), futex(2)). How many there may be, that numbers rise from 1
-- and aren't used again, and that the longest waiter is woken first, are own.
use Rattle.std.specs.Prelude.{ℕ, ◌+◌, ◌<◌, ◌≡◌, ◌≤◌, ◌==◌, ◌&&◌, Bool, true, false, not, List, [], ◌∷◌, ◌++◌, length, map, filter, find, All, if◌then◌else◌, Option, Some, None, is_some, nat_le}
use Rattle.std.specs.Option.{option_map, option_map_or}
use Rattle.std.specs.List.{list_any}
use Rattle.std.specs.List.Sorted.{IsStrictlyIncreasing}
use Rattle.mach_types.specs.declared.kernel_words.TheConstants.{MOST_THREADS}
use Rattle.mach_types.specs.declared.events.Hart.{Hart}
use Rattle.mach_types.specs.declared.threads.ThreadState.{ThreadState}
use Rattle.mach_types.specs.declared.threads.ThreadState.TheVariants.{Ready, Running, Waiting}

-- a live thread: its number, its state, and the address of the word that its exit clears, 0 where none is set
pub record Thread : Type 0 where
  pub tid : ℕ
  pub state : ThreadState
  pub clear_at : ℕ

-- the threads of a process: the live ones in rising order of number, how many numbers were given, and the numbers of those
-- that wait, the longest waiting first
pub record Threads : Type 0 where
  pub live : List Thread
  pub given : ℕ
  pub waiters : List ℕ

-- a thread at its start
abbrev pub new_thread : ℕ → Thread
new_thread t = record { tid = t; state = Ready; clear_at = 0 }

-- the first thread is ready when the process starts
abbrev pub start_threads : Threads
start_threads = record { live = new_thread 1 ∷ []; given = 1; waiters = [] }

abbrev pub is_thread : ℕ → Thread → Bool
is_thread t th = th.tid == t

-- the live thread with this number
abbrev pub thread_of : ℕ → Threads → Option Thread
thread_of t ts = find (is_thread t) ts.live

abbrev pub is_live : ℕ → Threads → Bool
is_live t ts = is_some (thread_of t ts)

-- its state, and the address that its exit clears
abbrev pub state_of : ℕ → Threads → Option ThreadState
state_of t ts = option_map (λ th. th.state) (thread_of t ts)

abbrev pub clear_of : ℕ → Threads → ℕ
clear_of t ts = option_map_or (λ th. th.clear_at) (thread_of t ts) 0

-- a thread with another state, or another address to clear
abbrev pub state_if : ℕ → ThreadState → Thread → Thread
state_if t st th = if is_thread t th then record th { state = st } else th

abbrev pub clear_if : ℕ → ℕ → Thread → Thread
clear_if t at th = if is_thread t th then record th { clear_at = at } else th

abbrev pub with_state : ℕ → ThreadState → Threads → Threads
with_state t st ts = record ts { live = map (state_if t st) ts.live }

-- each thread changed so
abbrev pub with_rows : (Thread → Thread) → Threads → Threads
with_rows f ts = record ts { live = map f ts.live }

abbrev pub with_clear : ℕ → ℕ → Threads → Threads
with_clear t at ts = with_rows (clear_if t at) ts

-- clone(2): a child with the next number, which is ready
abbrev pub with_child : Threads → Threads
with_child ts = record ts { live = ts.live ++ new_thread (ts.given + 1) ∷ []; given = ts.given + 1 }

-- no further thread may live
abbrev pub is_full : Threads → Bool
is_full ts = nat_le MOST_THREADS (length ts.live)

-- the waiters without one
abbrev pub no_waiter : ℕ → List ℕ → List ℕ
no_waiter t waiters = filter (λ u. not (u == t)) waiters

-- exit(2): the thread is gone
abbrev pub without : ℕ → Threads → Threads
without t ts = record ts { live = filter (λ th. not (is_thread t th)) ts.live; waiters = no_waiter t ts.waiters }

-- futex(2), wait: the thread waits at an address, behind all that wait
abbrev pub with_waiter : ℕ → ℕ → Threads → Threads
with_waiter t at ts = record (with_state t (Waiting at) ts) { waiters = ts.waiters ++ t ∷ [] }

-- whether a thread in this state waits at an address
abbrev pub is_waiting_at : ℕ → Option ThreadState → Bool
is_waiting_at at None = false
is_waiting_at at (Some Ready) = false
is_waiting_at at (Some (Running h)) = false
is_waiting_at at (Some (Waiting b)) = b == at

-- of the threads that listen the one that waits longest at an address
abbrev pub longest_waiter : ℕ → (ℕ → Bool) → Threads → Option ℕ
longest_waiter at listens ts = find (λ t. is_waiting_at at (state_of t ts) && listens t) ts.waiters

-- futex(2), wake, and a wait that a signal breaks: the thread waits no longer, and is ready
abbrev pub with_woken : ℕ → Threads → Threads
with_woken t ts = record (with_state t Ready ts) { waiters = no_waiter t ts.waiters }

-- the numbers of threads, in their order
abbrev pub numbers : List Thread → List ℕ
numbers live = map (λ th. th.tid) live

-- whether a thread in this state may begin to run, runs, runs on hart h, or waits
abbrev pub is_ready_state : ThreadState → Bool
is_ready_state Ready = true
is_ready_state (Running h) = false
is_ready_state (Waiting at) = false

abbrev pub is_running_state : ThreadState → Bool
is_running_state Ready = false
is_running_state (Running h) = true
is_running_state (Waiting at) = false

abbrev pub is_running_on : ℕ → ThreadState → Bool
is_running_on h Ready = false
is_running_on h (Running k) = k.0 == h
is_running_on h (Waiting at) = false

abbrev pub is_waiting_state : ThreadState → Bool
is_waiting_state Ready = false
is_waiting_state (Running h) = false
is_waiting_state (Waiting at) = true

-- whether a thread is live and ready
abbrev pub is_ready : ℕ → Threads → Bool
is_ready t ts = option_map_or is_ready_state (state_of t ts) false

-- the thread that runs on hart h
abbrev pub is_on : ℕ → Thread → Bool
is_on h th = is_running_on h th.state

abbrev pub running_on : ℕ → Threads → Option ℕ
running_on h ts = option_map (λ th. th.tid) (find (is_on h) ts.live)

-- whether a thread can go on by itself, and whether some thread is live and none can
abbrev pub goes_on : Thread → Bool
goes_on th = not (is_waiting_state th.state)

abbrev pub is_stuck : Threads → Bool
is_stuck ts = nat_le 1 (length ts.live) && not (list_any goes_on ts.live)

-- a live thread that waits, or runs
abbrev pub waits : Threads → ℕ → Type 0
waits ts t = (at : ℕ) × (state_of t ts ≡ Some (Waiting at))

abbrev pub runs : Threads → ℕ → Type 0
runs ts t = (h : Hart) × (state_of t ts ≡ Some (Running h))

-- how often a number stands in a list
abbrev pub times : ℕ → List ℕ → ℕ
times t ts = length (filter (λ u. u == t) ts)

-- what holds of the threads of a process: the numbers of the live ones rise, are positive and were given; they
-- aren't more than may live; and a thread is once among the waiters where it waits, and else not
pub record IsThreads (ts : Threads) : Type 0 where
  pub rising : IsStrictlyIncreasing (numbers ts.live)
  pub given : All (λ t. (0 < t) × (t ≤ ts.given)) (numbers ts.live)
  pub few : length ts.live ≤ MOST_THREADS
  pub waiting : (t : ℕ) → times t ts.waiters ≡ (if option_map_or is_waiting_state (state_of t ts) false then 1 else 0)
