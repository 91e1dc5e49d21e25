-- futex(2): the tables once threads were woken, or wait at another address.
use Rattle.std.specs.Prelude.{ℕ, ◌≡◌, ◌==◌, not, [], ◌∷◌, length, map, Option, Some, None}
use Rattle.mach_types.specs.declared.errors.TheConstants.{EAGAIN, EFAULT}
use Rattle.mach_types.specs.Kernel.Threads.{is_live, numbers, running_on}
use Rattle.kernel_threads.specs.Table.{saved_of}
use Rattle.block_model.specs.Here.{Here}
use Rattle.block_model.specs.History.{file_among}
use Rattle.block_model.specs.Calls.Answers.{CallDone, Errors, are_readable, argument, int_argument, number_at}
use Rattle.block_model.specs.Calls.Futexes.{Woken, answered_wait, futex_requeue, futex_wait, futex_wake}
use Rattle.block_model.specs.Tables.{IsTables}
use Rattle.sys_calls.specs.declared.futexes.Operation.{Operation}
use Rattle.sys_calls.specs.declared.futexes.Operation.TheVariants.{Requeue, Wait, Wake}
use Rattle.sys_calls.specs.declared.kernel.Kernel.{Kernel}
use Rattle.sys_calls.specs.Made.{AreSaved}
use Rattle.sys_calls.specs.Tables.{HoldsTables}

-- what an operation does
abbrev pub futex_of : Operation → Here → ℕ → CallDone
futex_of Wait here t = futex_wait here t
futex_of Wake here t = futex_wake here t
futex_of Requeue here t = futex_requeue here t

-- the errors of a word that is compared before its waiters go
abbrev pub compare_errors : Here → ℕ → Errors
compare_errors here t =
    (not (are_readable here (argument here t 0) 4), EFAULT)
    ∷ (not (number_at here (argument here t 0) 4 == int_argument here t 5), EAGAIN)
    ∷ []

-- what is kept of the threads is their files, where that is read: where a wake has a mask
abbrev pub AreHeard : Here → Option ℕ → Kernel → Type 0
AreHeard h mask k = (m : ℕ) → mask ≡ Some m → AreSaved h.file k.threads

-- these threads were woken or wait at another address, and so many they are
pub record IsWoken (h : Here) (k : Kernel) (k' : Kernel) (done : Woken) (count : ℕ) : Type 0 where
  pub number : count ≡ length done.threads
  pub tables : HoldsTables k' done.kernel
  pub ids : done.kernel.ids ≡ h.kernel.ids
  pub kept : AreSaved h.file k.threads
      → AreSaved (λ u. file_among (map (answered_wait h) done.threads) u (h.file u)) k'.threads

-- the tables hold, each hart runs the thread that it ran, nothing is saved of who had nothing saved, the same threads live, and the
-- signals and the areas are the same
pub record IsOnward (k : Kernel) (k' : Kernel) : Type 0 where
  pub tables : (harts : ℕ) → IsTables harts k.threads.threads k.ready → IsTables harts k'.threads.threads k'.ready
  pub running : (j : ℕ) → running_on j k'.threads.threads ≡ running_on j k.threads.threads
  pub quiet : (t : ℕ) → saved_of t k.threads.saved ≡ None → saved_of t k'.threads.saved ≡ None
  pub live : (t : ℕ) → is_live t k'.threads.threads ≡ is_live t k.threads.threads
  pub numbers : numbers k'.threads.threads.live ≡ numbers k.threads.threads.live
  pub signals : k'.signals ≡ k.signals
  pub areas : k'.areas ≡ k.areas
