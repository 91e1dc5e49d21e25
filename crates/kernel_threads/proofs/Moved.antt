-- What a table is of which a thread went to another stage, by rows that were lent.
use Rattle.std.proofs.Common.{ℕ, ◌≡◌, false, List, map, Some}
use Rattle.kernel_threads.specs.Rows.{all_saved_in, kept_at, stage_if, state_at, threads_in}
use Rattle.kernel_threads.specs.Table.{Table, with_saved}
use Rattle.kernel_threads.specs.Waits.{IsKept, numbers_of}
use Rattle.kernel_threads.specs.declared.rows.Row.{Row}
use Rattle.kernel_threads.specs.declared.rows.Stage.{Stage}
use Rattle.kernel_threads.specs.declared.table.Slots.{Slots}
use Rattle.kernel_threads.specs.declared.waiters.Waiter.{Waiter}
use Rattle.kernel_threads.proofs.Kept.{kept_moved}
use Rattle.kernel_threads.proofs.Opened.{same_kept, same_state, same_table, slots_table}
use Rattle.kernel_threads.proofs.Viewed.{moved_saved, moved_threads, of_live}
use Rattle.mach_types.proofs.Laws.{is_waiting}
use Rattle.mach_types.specs.Kernel.Threads.{state_of, with_state}
use Rattle.mach_types.specs.declared.threads.ThreadState.{ThreadState}

pub record IsMoved (given : ℕ) (t : Table) (changed : List Row) (ws : List Waiter) (n : ℕ) (st : Stage) : Type 0 where
  pub threads : of_live (threads_in changed) given (numbers_of ws) ≡ with_state n (state_at st) t.threads
  pub saved : all_saved_in changed ≡ with_saved n (kept_at st) t.saved
  pub kept : IsKept changed given ws

pub moved : (slots lent : Slots) (given : ℕ) (t : Table) (changed : List Row) (n : ℕ) (st : Stage) (s : ThreadState)
    → lent ≡ slots → slots_table slots given ≡ t → IsKept slots.rows.items given slots.waiters.items
    → changed ≡ map (stage_if n st) lent.rows.items → state_of n t.threads ≡ Some s
    → is_waiting (Some (state_at st)) ≡ false → is_waiting (Some s) ≡ false
    → IsMoved given t changed lent.waiters.items n st
moved slots lent given t changed n st s same view kept is was new old = let here = same_table slots lent given t same view in record {
  threads = moved_threads lent.rows.items changed given (numbers_of lent.waiters.items) n st t is here;
  saved = moved_saved lent.rows.items changed given (numbers_of lent.waiters.items) n st t is here;
  kept =
      kept_moved lent.rows.items changed given lent.waiters.items (same_kept slots lent given same kept)
      n st s is new (same_state n slots lent given t s same view was) old;
}
