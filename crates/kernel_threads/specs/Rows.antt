-- The rows of the table, one for each live thread, as the plain values that they stand for.
use Rattle.std.specs.Prelude.{ℕ, ◌==◌, Bool, List, map, find, if◌then◌else◌, Option, Some, None}
use Rattle.std.specs.List.Sorted.{IsStrictlyIncreasing}
use Rattle.std.specs.Option.{option_map, option_map_or}
use Rattle.kernel_threads.specs.declared.rows.Change.{Change}
use Rattle.kernel_threads.specs.declared.rows.Change.TheVariants as column
use Rattle.kernel_threads.specs.declared.rows.Row.{Row}
use Rattle.kernel_threads.specs.declared.rows.Stage.{Stage}
use Rattle.kernel_threads.specs.declared.rows.Stage.TheVariants as stage
use Rattle.kernel_threads.specs.Table.{Table, SavedList}
use Rattle.mach_types.specs.Kernel.Threads.{Thread, is_thread}
use Rattle.mach_types.specs.declared.threads.Saved.{Saved}
use Rattle.mach_types.specs.declared.threads.ThreadState.{ThreadState}
use Rattle.mach_types.specs.declared.threads.ThreadState.TheVariants.{Ready, Running, Waiting}

-- the state that a stage stands for, and what is kept in it
abbrev pub state_at : Stage → ThreadState
state_at (stage.Ready kept) = Ready
state_at (stage.Running h) = Running h
state_at (stage.Waiting at kept) = Waiting at

abbrev pub kept_at : Stage → Option Saved
kept_at (stage.Ready kept) = Some kept
kept_at (stage.Running h) = None
kept_at (stage.Waiting at kept) = Some kept

-- the thread of a row, and what is saved of it
abbrev pub thread_in : Row → Thread
thread_in row = record { tid = row.number; state = state_at row.stage; clear_at = row.clear_at }

abbrev pub saved_in : Row → ℕ × Option Saved
saved_in row = (row.number, kept_at row.stage)

-- the row of a new thread, which goes on with this
abbrev pub new_row : ℕ → Saved → Row
new_row n start = record { number = n; stage = stage.Ready start; clear_at = 0 }

abbrev pub threads_in : List Row → List Thread
threads_in rows = map thread_in rows

abbrev pub all_saved_in : List Row → SavedList
all_saved_in rows = map saved_in rows

-- the state of the thread with a number, and the address that its exit clears
abbrev pub state_in : ℕ → List Row → Option ThreadState
state_in n rows = option_map (λ th. th.state) (find (is_thread n) (threads_in rows))

abbrev pub clear_in : ℕ → List Row → ℕ
clear_in n rows = option_map_or (λ th. th.clear_at) (find (is_thread n) (threads_in rows)) 0

-- the numbers of rows rise
abbrev pub are_rising : List Row → Type 0
are_rising rows = IsStrictlyIncreasing (map (λ row. row.number) rows)

abbrev pub is_row : ℕ → Row → Bool
is_row n row = row.number == n

-- a row after a change of one column; and the row with a number, changed so
abbrev pub changed_by : Change → Row → Row
changed_by (column.Stage st) row = record row { stage = st }
changed_by (column.ClearAt at) row = record row { clear_at = at }

abbrev pub change_if : ℕ → Change → Row → Row
change_if n change row = if is_row n row then changed_by change row else row

-- a row in another stage, or with another address to clear
abbrev pub stage_if : ℕ → Stage → Row → Row
stage_if n st row = change_if n (column.Stage st) row

abbrev pub clear_row_if : ℕ → ℕ → Row → Row
clear_row_if n at row = change_if n (column.ClearAt at) row

-- the table of these rows, so many numbers and these waiters
abbrev pub table_in : List Row → ℕ → List ℕ → Table
table_in rows given waiters = record {
  threads = record { live = threads_in rows; given = given; waiters = waiters };
  saved = all_saved_in rows;
}
