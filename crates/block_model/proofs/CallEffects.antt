-- What a call's deed can be. Each call of the table is one of these (CallEffects/EachCall.antt); a law of all
-- calls goes over them, and names no call.
use Rattle.block_model.proofs.Common.{◌≡◌, ◌≢◌, ℕ, ◌+◌, ◌≤◌, ◌<◌, ◌^◌, List, [], ◌∷◌, length, refl, Bool, true, false, cond, Option, Some, None, arith, Area, CONSOLE_ROOM, CallDone, drawn, End, Here, IsError, IsGoodHere, KeepsRows, Kernel, Pages, Registered, Signalling, Thread, Write, area_here, broken_wait, child_file, for_barriers, frame_read, id_of, is_full, is_writable, killed_in_call, left, memory, next_for, next_number, paged, printed, register, registered, restricted, resumed, returned, rows_changed, said, signalled, taken_by, unregistered, waited, waits, with_new_child, woken, words_on, words_written}
use Rattle.mach_types.specs.declared.limits.End.TheVariants as over
use Rattle.block_model.specs.Calls.Answers.{Errors, unless}
use Rattle.block_model.specs.Calls.Barriers.{begins}
use Rattle.block_model.specs.Calls.Ending.{one_exits}
use Rattle.block_model.specs.Calls.Futexes.{counted, requeue}
use Rattle.block_model.proofs.Barriers.Events.{IsAtOthers}
use Rattle.block_model.proofs.Invariants.Calls.Conditions.{StaysWritable}
use Rattle.block_model.proofs.IgnoredSignals.{AllHeeded}
use Rattle.block_model.proofs.Pages.{IsPaged}
use Rattle.block_model.proofs.Pcs.{StandsIn}
use Rattle.block_model.proofs.SignalTables.{HandlersStand, KeepsThreads}
use Rattle.block_model.proofs.WritableBytes.{AllWritable}
mod Affinity
mod Barriers
mod Cloning
mod Console
pub mod Ending
mod Futexes
mod Limits
mod Memory
mod Numbers
mod Policies
mod Random
mod Sequences
mod Signals
mod System
mod Terminal
pub mod EachCall

-- few numbers were given, also to the thread
pub record AreFew (here : Here) (t : ℕ) : Type 0 where
  pub low : t < 2 ^ 32
  pub few : here.kernel.threads.given < 2 ^ 31

-- so that this answer is no error
abbrev pub IsAnswer : Here → ℕ → ℕ → Type 0
IsAnswer here t n = AreFew here t → IsError n → ⊥

-- the pc of each thread is below 2^64, and so is each handler; and memory has bytes
pub record AllStand (here : Here) : Type 0 where
  pub threads : (t : ℕ) → StandsIn (here.file t)
  pub handlers : HandlersStand here.kernel.signals
  pub bytes : (a : ℕ) → here.byte a < 256

-- neither the end of a script nor a process of which no thread can go on: these end a run, and no event makes them
abbrev pub NotOpen : Option End → Type 0
NotOpen o = (o ≢ Some over.Unended) × (o ≢ Some over.Stuck)

-- THE DEEDS

-- what the caller, which goes on or leaves its hart, makes of the record: of one table, or of those in which
-- it stands; and what the call writes, where that is told
pub data TableStep (here : Here) (t number : ℕ) (entered : List Write) : Kernel → Type 0 where
  Same : TableStep here t number entered here.kernel
  Prints : (bytes : List ℕ) → length here.kernel.console + length bytes ≤ CONSOLE_ROOM
      → TableStep here t number entered (printed bytes here.kernel)
  ChangesRows : (f : Thread → Thread) → KeepsRows f → TableStep here t number entered (rows_changed f here.kernel)
  Leaves : TableStep here t number entered (left t here.kernel)
  Waits : (at : ℕ) → next_for t here.kernel.signals ≡ None → number ≡ 98
      → TableStep here t number entered (waited t at here.kernel)
  Stays : (set : ℕ) → set < 2 ^ here.setting.limits.harts → set ≢ 0
      → TableStep here t number entered (restricted t set here.kernel)
  MovesOff : (set : ℕ) → set < 2 ^ here.setting.limits.harts → set ≢ 0
      → TableStep here t number entered (left t (restricted t set here.kernel))
  Registers : (area : Area) → here.beside ≡ None → area_here here t ≡ None
      → entered ≡ words_written area (words_on here.hart (id_of t here.kernel.ids))
      → TableStep here t number entered (registered t area here.kernel)
  Unregisters : TableStep here t number entered (unregistered t here.kernel)
  Signalled : (g : Signalling) → KeepsThreads here.kernel.signals g → (AllStand here → HandlersStand g)
      → (AllHeeded here.kernel.signals → AllHeeded g)
      → ((w : ℕ) → w ≢ t → waits here.kernel.threads w → next_for w here.kernel.signals ≡ None → next_for w g ≡ None)
      → TableStep here t number entered (signalled g here.kernel)
  EnrolsFor : (r : Registered) → TableStep here t number entered (for_barriers r here.kernel)
  Draws : (state : ℕ) → TableStep here t number entered (drawn state here.kernel)
  Remaps : (pages : Pages) → StaysWritable here.kernel.pages (taken_by number here t) pages
      → (IsPaged here.setting here.kernel.pages → IsPaged here.setting pages)
      → TableStep here t number entered (paged pages here.kernel)

-- it only answers, perhaps with an error; it answers, writes and makes a step of the record; it wakes those
-- who wait at an address, or lets them wait at another one; it breaks the wait of a thread; its thread is gone; it has a child; it begins a
-- barrier; it goes on from a frame of memory; or the process ends
pub data CallDeed (here : Here) (t number : ℕ) : CallDone → Type 0 where
  Says : (n : ℕ) → CallDeed here t number (said here t n)
  Answers : (n : ℕ) (entered : List Write) (k : Kernel) → IsAnswer here t n → AllWritable (is_writable here) entered
      → TableStep here t number entered k
      → CallDeed here t number (record (said here t n) { entered = entered; kernel = k })
  Wakes : (n more at to : ℕ) (listens : ℕ → Bool) → n + more < 2 ^ 32
      → CallDeed here t number (counted here t (requeue n more at to listens here.kernel))
  Breaks : (u : ℕ) (g : Signalling) → waits here.kernel.threads u → KeepsThreads here.kernel.signals g
      → (AllStand here → HandlersStand g) → (AllHeeded here.kernel.signals → AllHeeded g)
      → ((w : ℕ) → w ≢ u → next_for w here.kernel.signals ≡ None → next_for w g ≡ None)
      → CallDeed here t number (record {
        files = (t, returned 0 (here.file t)) ∷ broken_wait here u ∷ [];
        entered = [];
        kernel = woken u (signalled g here.kernel);
        barrier = None;
        ended = None;
      })
  Exits : 1 < length here.kernel.threads.live → CallDeed here t number (one_exits here t)
  Bears : (entered : List Write) → AllWritable (is_writable here) entered → is_full here.kernel.threads ≡ false
      → number ≡ 220
      → CallDeed here t number (record {
        files = (t, returned (next_number here.kernel) (here.file t)) ∷
            (next_number here.kernel, child_file here t) ∷ [];
        entered = entered;
        kernel = with_new_child here t;
        barrier = None;
        ended = None;
      })
  Begins : (targets : ℕ) (restart : Bool)
      → (IsGoodHere here → IsAtOthers here (record { targets = targets; restart = restart }))
      → (IsError (register (here.file t).file 10) → ⊥)
      → number ≡ 283
      → CallDeed here t number (begins here t targets restart)
  Resumes : (words : List ℕ) → frame_read (memory here) (here.file t) ≡ Some words → number ≡ 139
      → CallDeed here t number (resumed here t (Some words))
  Ends : (entered : List Write) (e : End) → AllWritable (is_writable here) entered → NotOpen (Some e)
      → CallDeed here t number
      (record { files = []; entered = entered; kernel = here.kernel; barrier = None; ended = Some e })

-- TESTS

-- no test of an error holds
abbrev pub NoneHolds : Errors → Type 0
NoneHolds [] = Unit
NoneHolds (e ∷ es) = (e.0 ≡ false) × NoneHolds es

module _ {here : Here} {t number : ℕ} where
  -- one of two calls, by a test
  pub either : (b : Bool) {x y : CallDone} → (b ≡ true → CallDeed here t number x)
      → (b ≡ false → CallDeed here t number y) → CallDeed here t number (cond b x y)
  either true p q = p refl
  either false p q = q refl

  pub step_either : (b : Bool) {entered : List Write} {x y : Kernel} → TableStep here t number entered x
      → TableStep here t number entered y → TableStep here t number entered (cond b x y)
  step_either true p q = p
  step_either false p q = q

  -- a call by its errors
  pub by_errors : (es : Errors) (c : CallDone) → (NoneHolds es → CallDeed here t number c)
      → CallDeed here t number (unless here t es c)
  by_errors [] c rest = rest tt
  by_errors (e ∷ es) c rest = either e.0 (λ _. Says _) (λ is. by_errors es c (λ all. rest (is, all)))

-- a small answer is no error
pub small_no_error : (n : ℕ) → n < 2 ^ 32 → IsError n → ⊥
small_no_error n small error =
    let most = error.most in
    let is = error.is in
    omega arith

-- it answers 0
pub answers_0 : {here : Here} {t number : ℕ} (entered : List Write) (k : Kernel) → AllWritable (is_writable here) entered
    → TableStep here t number entered k
    → CallDeed here t number (record (said here t 0) { entered = entered; kernel = k })
answers_0 entered k writes step = Answers 0 entered k (λ _. small_no_error 0 (omega arith)) writes step

-- it is killed
pub deed_killed : {here : Here} {t number : ℕ} → CallDeed here t number (killed_in_call here)
deed_killed = Ends [] _ tt ((λ is. absurd cc), (λ is. absurd cc))
