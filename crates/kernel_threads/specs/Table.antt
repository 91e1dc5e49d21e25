-- The table of threads: the threads of a process, and what each keeps while it doesn't run (own).
use Rattle.std.specs.Prelude.{ℕ, ◌≡◌, ◌-◌, ◌^◌, ◌==◌, Bool, true, false, not, List, [], ◌∷◌, ◌++◌, map, filter, find, if◌then◌else◌, Option, Some, None, is_some}
use Rattle.std.specs.Option.{option_map, option_map_or, option_and_then}
use Rattle.mach_types.specs.Registers.{with_register}
use Rattle.mach_types.specs.Kernel.Futexes.{hears}
use Rattle.mach_types.specs.Kernel.Threads as process
use Rattle.mach_types.specs.declared.errors.TheConstants.{EINTR}
use Rattle.mach_types.specs.declared.threads.Saved.{Saved}

-- of each live thread its number and what it was saved with, none where it runs
abbrev pub SavedList : Type 0
SavedList = List (ℕ × Option Saved)

-- the threads of a process, and what is saved of them, in the same order
pub record Table : Type 0 where
  pub threads : process.Threads
  pub saved : SavedList

-- at the start thread 1 is ready, and has what it starts with
abbrev pub start_table : Saved → Table
start_table start = record { threads = process.start_threads; saved = (1, Some start) ∷ [] }

abbrev pub is_of : ℕ → ℕ × Option Saved → Bool
is_of t pair = pair.0 == t

-- what a thread was saved with; none where it runs, or isn't live
abbrev pub saved_of : ℕ → SavedList → Option Saved
saved_of t saved = option_and_then (λ pair. pair.1) (find (is_of t) saved)

-- whether a thread that waits hears a wake with this mask, or without one (futex(2))
abbrev pub hears_saved : Option ℕ → SavedList → ℕ → Bool
hears_saved None saved t = true
hears_saved (Some mask) saved t = option_map_or (hears (Some mask)) (saved_of t saved) false

-- what a thread was saved with becomes this, or none
abbrev pub saved_if : ℕ → Option Saved → ℕ × Option Saved → ℕ × Option Saved
saved_if t kept pair = if is_of t pair then (pair.0, kept) else pair

abbrev pub with_saved : ℕ → Option Saved → SavedList → SavedList
with_saved t kept saved = map (saved_if t kept) saved

-- clone(2): a new thread has what it starts with
abbrev pub with_start : ℕ → Saved → SavedList → SavedList
with_start t start saved = saved ++ (t, Some start) ∷ []

-- exit(2): a thread that ended has nothing saved
abbrev pub forget : ℕ → SavedList → SavedList
forget t saved = filter (λ pair. not (is_of t pair)) saved

-- futex(2): a thread finds the answer of its wait in a0, which is x10 (RISC-V psABI), when it runs again
abbrev pub answering : ℕ → Saved → Saved
answering value kept = record kept { file = with_register kept.file 10 value }

abbrev pub with_answer : ℕ → ℕ → SavedList → SavedList
with_answer t value saved = with_saved t (option_map (answering value) (saved_of t saved)) saved

-- the answer of a wait that a signal broke, which is -EINTR in 64 bits
abbrev pub interrupted : ℕ
interrupted = 2 ^ 64 - EINTR.0

-- whether something is saved of a thread, and whether something is to be
abbrev pub has_saved : ℕ × Option Saved → ℕ × Bool
has_saved pair = (pair.0, is_some pair.1)

abbrev pub wants_saved : process.Thread → ℕ × Bool
wants_saved th = (th.tid, not (process.is_running_state th.state))

-- what holds of the table: so are its threads, and those that don't run have something saved, and no others
pub record IsTable (table : Table) : Type 0 where
  pub threads : process.IsThreads table.threads
  pub saved : map has_saved table.saved ≡ map wants_saved table.threads.live
