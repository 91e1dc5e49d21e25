-- The laws of what is saved of threads, for crates above.
use Rattle.std.proofs.Common.{◌≡◌, ◌≢◌, ℕ, Option, Some, None, refl, sym, ◌∙◌}
use Rattle.std.specs.List.{find}
use Rattle.std.specs.Option.{option_and_then, IsSome}
use Rattle.mach_types.specs.declared.events.Hart.{Hart}
use Rattle.mach_types.specs.declared.threads.Saved.{Saved}
use Rattle.mach_types.specs.declared.threads.ThreadState.TheVariants.{Ready, Running, Waiting}
use Rattle.mach_types.specs.Kernel.Threads.{state_of}
use Rattle.kernel_threads.specs.Table.{Table, IsTable, SavedList, is_of, saved_of, with_saved}
use Rattle.kernel_threads.proofs.SavedAfter as after
use Rattle.kernel_threads.proofs.SavedThere as there
pub use Rattle.kernel_threads.proofs.SavedAfter.{saved_of-answered, saved_of-child, saved_of-forget_other, saved_of-forget_same, saved_of-with_answer_other, saved_of-with_start_other}

-- what happens to one thread leaves what is saved of another
pub saved_of_others : (t u : ℕ) → u ≢ t → (kept : Option Saved) (saved : SavedList) → saved_of u (with_saved t kept saved) ≡ saved_of u saved
saved_of_others t u other kept saved = after.saved_of-with_saved_other t u other kept saved

-- what is saved of a thread is what it was saved with
pub is_kept : (t : ℕ) (kept x : Saved) (saved : SavedList) → saved_of t (with_saved t (Some kept) saved) ≡ Some x → x ≡ kept
is_kept t kept x saved at = go (find (is_of t) saved) (sym (after.saved_of-with_saved_same t (Some kept) saved) ∙ at)
  where
    go : (o : Option (ℕ × Option Saved)) → option_and_then (λ (pair : ℕ × Option Saved). Some kept) o ≡ Some x → x ≡ kept
    go None e = cc
    go (Some pair) e = cc

-- nothing is saved of a thread that runs
pub running_saves_nothing : (t : ℕ) (h : Hart) (table : Table) → IsTable table → state_of t table.threads ≡ Some (Running h) → saved_of t table.saved ≡ None
running_saves_nothing t h table holds runs = there.saved_of-running t h table holds runs

-- nor of one that just began to run
pub emptied : (t : ℕ) (saved : SavedList) → saved_of t (with_saved t None saved) ≡ None
emptied t saved = after.saved_of-emptied t saved

-- something is saved of a thread that is ready
pub ready_saves_something : (t : ℕ) (table : Table) → IsTable table → state_of t table.threads ≡ Some Ready → IsSome (saved_of t table.saved)
ready_saves_something t table holds ready = there.saved_of-not_running t Ready table holds ready refl

-- and of one that waits
pub waiting_saves_something : (t at : ℕ) (table : Table) → IsTable table → state_of t table.threads ≡ Some (Waiting at) → IsSome (saved_of t table.saved)
waiting_saves_something t at table holds waits = there.saved_of-not_running t (Waiting at) table holds waits refl
