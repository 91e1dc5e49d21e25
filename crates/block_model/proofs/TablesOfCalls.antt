-- Whatever else holds at a place, each call leaves tables that agree: where the threads, the scheduling, the areas and the signals
-- agreed before it, they agree after it.
use Rattle.block_model.proofs.Common.{◌≡◌, ℕ, List, Bool, true, false, cond, Some, is_some, refl, ap, ◌∙◌, arith, Option, AreOfLive, AreSignalsOfLive, CallDone, Here, IsHeld, IsTables, KeepsRows, Kernel, Thread, ThreadState, Write, argument, call_number, called, clear_if, clear_of, cleared, clears, clone_child_cleartid, gone, had_child, has_flag, keeps_clear, left, next_number, requeue, requeued, restricted, rows_changed, running_on, runs, signalled, waits, wake, woken, anyone}
use Rattle.mach_types.specs.Kernel.SignalFrames as frame
use Rattle.block_model.proofs.CallEffects.{Answers, Bears, Breaks, CallDeed, ChangesRows, Exits, Leaves, MovesOff, Registers, Resumes, Signalled, Stays, TableStep, Unregisters, Waits, Wakes}
use Rattle.block_model.proofs.CallEffects.EachCall.{deed_called}
use Rattle.block_model.proofs.Invariants.Calls.Futexes.{requeue_keeps}
use Rattle.block_model.proofs.ThreadRecords.{has_state, held_beside, held_child, held_gone, held_left, held_registered, held_requeued, held_rows, held_signalled, held_unregistered, held_waited, held_woken}
use Rattle.block_model.proofs.KernelCalls.{tables_allowed, requeued_same, tables_child, tables_ended, tables_requeued, tables_waited, tables_woken, woken_same}
use Rattle.block_model.proofs.KernelTables.{running_is, tables_left, tables_rows}
use Rattle.block_model.proofs.SignalTables.{returned_keeps}

-- the tables of a record agree
pub record IsAgreed (harts : ℕ) (k : Kernel) : Type 0 where
  pub tables : IsTables harts k.threads k.scheduling
  pub areas : AreOfLive k.threads k.areas
  pub signals : AreSignalsOfLive k.threads k.signals

-- of the areas and the signals as what is held says it: nothing is said of ids where there are more harts than ids
held_of : (harts : ℕ) (k : Kernel) → IsAgreed harts k → IsHeld 9 k
held_of harts k is = record { ids = λ few. absurd (omega arith); areas = is.areas; signals = is.signals }

agreed_of : (harts : ℕ) (k : Kernel) → IsTables harts k.threads k.scheduling → IsHeld 9 k → IsAgreed harts k
agreed_of harts k tables held = record { tables = tables; areas = held.areas; signals = held.signals }

-- steps of the record: a thread that waited is woken, one that runs leaves or is gone, another address to clear, and a child
agreed_woken : (harts t : ℕ) (k : Kernel) → waits k.threads t → IsAgreed harts k → IsAgreed harts (woken t k)
agreed_woken harts t k waiting is =
    agreed_of harts (woken t k) (tables_woken harts t k.threads k.scheduling is.tables waiting) (held_woken 9 t k waiting (held_of harts k is))

agreed_requeued : (harts t at : ℕ) (k : Kernel) → waits k.threads t → IsAgreed harts k → IsAgreed harts (requeued t at k)
agreed_requeued harts t at k waiting is =
    agreed_of harts (requeued t at k) (tables_requeued harts t at k.threads k.scheduling is.tables waiting)
    (held_requeued 9 t at k waiting (held_of harts k is))

agreed_left : (harts h t : ℕ) (k : Kernel) → running_on h k.threads ≡ Some t → IsAgreed harts k → IsAgreed harts (left t k)
agreed_left harts h t k at is =
    agreed_of harts (left t k) (tables_left harts h t k.threads k.scheduling is.tables at) (held_left 9 t k (held_of harts k is))

agreed_gone : (harts h t : ℕ) (k : Kernel) → running_on h k.threads ≡ Some t → IsAgreed harts k → IsAgreed harts (gone t k)
agreed_gone harts h t k at is =
    agreed_of harts (gone t k) (tables_ended harts h t k.threads k.scheduling is.tables at) (held_gone 9 t k (held_of harts k is))

agreed_rows : (harts : ℕ) (f : Thread → Thread) → KeepsRows f → (k : Kernel) → IsAgreed harts k → IsAgreed harts (rows_changed f k)
agreed_rows harts f keeps k is =
    agreed_of harts (rows_changed f k) (tables_rows harts f keeps k.threads k.scheduling is.tables) (held_rows 9 f keeps k (held_of harts k is))

agreed_restricted : (harts t set : ℕ) (k : Kernel) → IsAgreed harts k → IsAgreed harts (restricted t set k)
agreed_restricted harts t set k is =
    agreed_of harts (restricted t set k) (tables_allowed harts t set k.threads k.scheduling is.tables) (held_beside 9 k _ refl refl refl refl (held_of harts k is))

cleared_if : (harts t at : ℕ) (k : Kernel) (b : Bool) → IsAgreed harts k → IsAgreed harts (cond b (cleared t at k) k)
cleared_if harts t at k true is = agreed_rows harts (clear_if t at) (keeps_clear t at) k is
cleared_if harts t at k false is = is

-- many that waited are woken or wait at another address, and who runs goes on running
record IsRequeue (harts : ℕ) (k after : Kernel) : Type 0 where
  agreed : IsAgreed harts after
  running : (h : ℕ) → running_on h after.threads ≡ running_on h k.threads

agreed_requeue : (harts n more at to : ℕ) (listens : ℕ → Bool) (k : Kernel) → IsAgreed harts k → IsRequeue harts k (requeue n more at to listens k).kernel
agreed_requeue harts n more at to listens k is =
    requeue_keeps (λ a b. IsAgreed harts a → IsRequeue harts a b) (λ a its. record { agreed = its; running = λ h. refl })
    (λ u a after waiting rest its.
    let done = rest (agreed_woken harts u a waiting its) in
    record { agreed = done.agreed; running = λ h. done.running h ∙ woken_same harts u a.threads a.scheduling its.tables waiting h })
    (λ u to a after waiting rest its.
    let done = rest (agreed_requeued harts u to a waiting its) in
    record { agreed = done.agreed; running = λ h. done.running h ∙ requeued_same harts u to a.threads a.scheduling its.tables waiting h })
    n more at to listens k is

-- a call of the thread that runs on the hart
module _ (here : Here) (t number harts : ℕ) (at : runs here ≡ Some t) (is : IsAgreed harts here.kernel) where
  abbrev now : Kernel
  now = here.kernel

  held : IsHeld 9 here.kernel
  held = held_of harts here.kernel is

  lives : has_state t here.kernel.threads ≡ true
  lives = ap (λ (o : Option ThreadState). is_some o) (running_is harts here.hart t here.kernel.threads here.kernel.scheduling is.tables at)

  agreed_step : {entered : List Write} {k : Kernel} → TableStep here t number entered k → IsAgreed harts k
  agreed_step (ChangesRows f keeps) = agreed_rows harts f keeps now is
  agreed_step Leaves = agreed_left harts here.hart t now at is
  agreed_step (Waits p none its_number) =
      agreed_of harts _ (tables_waited harts here.hart t p now.threads now.scheduling is.tables at) (held_waited 9 t p now held)
  agreed_step (Stays set below some) = agreed_restricted harts t set now is
  agreed_step (MovesOff set below some) = agreed_left harts here.hart t (restricted t set now) at (agreed_restricted harts t set now is)
  agreed_step (Registers area alone none writes) = agreed_of harts _ is.tables (held_registered 9 t area now lives none held)
  agreed_step Unregisters = agreed_of harts _ is.tables (held_unregistered 9 t now held)
  agreed_step (Signalled g keeps stand heeds calm) = agreed_of harts _ is.tables (held_signalled 9 g now keeps held)
  agreed_step step = record { tables = is.tables; areas = is.areas; signals = is.signals }

  agreed_deed : {c : CallDone} → CallDeed here t number c → IsAgreed harts c.kernel
  agreed_deed (Answers n entered k no_error writes step) = agreed_step step
  agreed_deed (Wakes n more p to listens small) = (agreed_requeue harts n more p to listens now is).agreed
  agreed_deed (Breaks u g waiting keeps stand heeds calm) =
      agreed_woken harts u (signalled g now) waiting (agreed_of harts _ is.tables (held_signalled 9 g now keeps held))
  agreed_deed (Exits more) =
      let n : ℕ = cond (clears here t) 1 0 in
      let woke = agreed_requeue harts n 0 (clear_of t now.threads) 0 anyone now is in
      agreed_gone harts here.hart t (wake n (clear_of t now.threads) anyone now).kernel (woke.running here.hart ∙ at) woke.agreed
  agreed_deed (Bears entered writes free its_number) =
      cleared_if harts (next_number now) (argument here t 4) (had_child t now) (has_flag (argument here t 0) clone_child_cleartid)
      (agreed_of harts (had_child t now) (tables_child harts t now.threads now.scheduling is.tables free) (held_child 9 t now is.tables.threads held))
  agreed_deed (Resumes words its number_is) =
      agreed_of harts _ is.tables
      (held_signalled 9 (frame.returned t (Some words) now.signals) now (returned_keeps t (Some words) now.signals) held)
  agreed_deed other = is

pub agreed_called : (harts : ℕ) (here : Here) (t : ℕ) → runs here ≡ Some t → IsAgreed harts here.kernel → IsAgreed harts (called here t).kernel
agreed_called harts here t at is = agreed_deed here t (call_number here t) harts at is (deed_called here t)
