-- Which events a hart may make, by what is seen of it: what the conditions of an event come to where no store of an idle hart waits,
-- nor of one whose thread waits in a barrier.
use Rattle.std.specs.Prelude.{ℕ, ◌≡◌, ◌==◌, true, false, List}
use Rattle.std.specs.List.{list_any}
use Rattle.mach_types.specs.declared.events.Choice.{Choice}
use Rattle.mach_types.specs.declared.events.Choice.TheVariants as asked
use Rattle.mach_types.specs.declared.events.Sight.{Sight}
use Rattle.mach_types.specs.declared.events.Tid.{Tid}
use Rattle.chooser.specs.Cases.{has_stores}

-- a running thread that waits in no barrier, on a hart no store of which waits
pub record IsInterruptible (seen : Sight) : Type 0 where
  pub runs : seen.idle ≡ false
  pub apart : seen.in_barrier ≡ false
  pub empty : has_stores seen ≡ false

-- a barrier of the hart's thread that can return
pub record IsReturnable (seen : Sight) : Type 0 where
  pub runs : seen.idle ≡ false
  pub waits : seen.in_barrier ≡ true
  pub over : seen.all_taken ≡ true

-- an idle hart, and this is one of the threads that may begin to run there
pub record IsStartable (seen : Sight) (threads : List ℕ) (t : ℕ) : Type 0 where
  pub idle : seen.idle ≡ true
  pub among : list_any (λ u. u == t) threads ≡ true

-- an event that is allowed, where these threads may begin to run on the hart
pub data IsAllowed (seen : Sight) (threads : List ℕ) : Choice → Type 0 where
  Executes : seen.exec_enabled ≡ true → IsAllowed seen threads asked.Exec
  Drains : has_stores seen ≡ true → IsAllowed seen threads asked.Drain
  Takes : seen.requested ≡ true → has_stores seen ≡ false → IsAllowed seen threads asked.Take
  Returns : IsReturnable seen → IsAllowed seen threads asked.Done
  Preempts : IsInterruptible seen → IsAllowed seen threads asked.Preempt
  Runs : (t : Tid) → IsStartable seen threads t.0 → IsAllowed seen threads (asked.Run t)
  Delivers : seen.deliverable ≡ true → IsInterruptible seen → IsAllowed seen threads asked.Signal

-- a hart of which this is seen has no store waiting where it is idle or its thread waits in a barrier
pub record IsSettled (seen : Sight) : Type 0 where
  pub idle : seen.idle ≡ true → has_stores seen ≡ false
  pub in_barrier : seen.in_barrier ≡ true → has_stores seen ≡ false
