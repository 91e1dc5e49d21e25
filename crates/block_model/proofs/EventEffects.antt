-- What an event's deed can be, whether it was allowed or not. Each event is one of these; a law of all events
-- goes over them, and tells no kinds apart.
use Rattle.block_model.proofs.Common.{◌≡◌, ℕ, List, [], ◌∷◌, refl, Bool, true, false, cond, Option, Some, None, Done, Effect, Entry, Here, Killed, Kind, Store, Stored, by_call, by_effect, by_outcome, called, choice_with, done_done_by, done_drain_of, done_exec_by, done_killed, done_next, done_of, done_preempt_by, done_running, done_signal_by, done_take_by, handled, handled_unless_killed, has_handler, interruption_here, is_call, is_inside_here, killed_in_call, kills, left, lives_on, next_effect, next_fault, next_for, nothing, one_instruction, only_took, outcome_of, runs, signalled, took_and_interrupted, waiting_here, with_register, is_preempt, fault_told, with_fault}
use Rattle.std.specs.Option.{option_map_or}
use Rattle.mach_types.specs.Events.{begun_by as named_by, kind_of}
use Rattle.mach_types.specs.declared.events.Choice.{Choice}
use Rattle.mach_types.specs.declared.events.Choice.TheVariants as asked
use Rattle.mach_types.specs.declared.events.Kind.TheVariants as kind
use Rattle.mach_types.specs.declared.events.Tid.{Tid}
use Rattle.block_model.specs.Events.Signal.{only_taken}

-- thread t runs on the hart, and its next instruction makes a fault; or it makes none
pub record IsFault (here : Here) (t signal : ℕ) : Type 0 where
  pub at : runs here ≡ Some t
  pub fault : next_fault here t ≡ Some signal

pub record IsNext (here : Here) (t : ℕ) (e : Effect) : Type 0 where
  pub at : runs here ≡ Some t
  pub none : next_fault here t ≡ None
  pub is : next_effect here t ≡ Some e

-- nothing; an instruction that isn't there; a fault that is handled or kills; a call that kills inside a
-- sequence, or is made; another instruction; a store that enters memory; requests that are taken, with a
-- restart or without; a barrier that returns; a thread that leaves, by an event of any kind that makes one
-- leave; one that begins to run, or is killed at it; a signal that is handled, or kills
pub data EventDeed (here : Here) (tid : ℕ) : Kind → Done → Type 0 where
  Nothing : (k : Kind) → EventDeed here tid k (nothing here)
  Skips : EventDeed here tid kind.Exec (one_instruction here)
  Faults : (t signal : ℕ) → IsFault here t signal → has_handler here t signal ≡ true
      → EventDeed here tid kind.Exec
      (record (one_instruction here) {
        kernel =
            signalled (with_fault t (fault_told here t signal) here.kernel.signals) here.kernel;
      })
  FaultKills : (t signal : ℕ) → IsFault here t signal
      → EventDeed here tid kind.Exec (record (one_instruction here) { ended = Some (Killed signal) })
  CallKills : (t : ℕ) (e : Effect) → IsNext here t e → is_call e ≡ true
      → EventDeed here tid kind.Exec (by_call here (killed_in_call here))
  Calls : (t : ℕ) (e : Effect) → IsNext here t e → is_call e ≡ true → is_inside_here here t ≡ false
      → EventDeed here tid kind.Exec (by_call here (called here t))
  Executes : (t : ℕ) (e : Effect) → IsNext here t e
      → EventDeed here tid kind.Exec (by_outcome here t (outcome_of here t e))
  Drains : (w : Store) (ws : List Store) → waiting_here here ≡ w ∷ ws
      → EventDeed here tid kind.Drain (record (nothing here) { drained = 1; entered = Stored w ∷ [] })
  Takes : EventDeed here tid kind.Take (only_took here)
  Restarts : (t : ℕ) → runs here ≡ Some t
      → EventDeed here tid kind.Take (took_and_interrupted here t (interruption_here here t))
  Returns : (t : ℕ) → runs here ≡ Some t
      → EventDeed here tid kind.Done (record (nothing here) {
        files = (t, record (here.file t) { file = with_register (here.file t).file 10 0 }) ∷ [];
        reserved = None;
        returned = true;
      })
  Preempts : (k : Kind) (t : ℕ) → is_preempt k ≡ true → runs here ≡ Some t
      → EventDeed here tid k (record (nothing here) { reserved = None; kernel = left t here.kernel })
  Runs : EventDeed here tid kind.Run (done_running here tid (interruption_here here tid))
  RunKills : EventDeed here tid kind.Run (done_killed here tid (interruption_here here tid))
  Handles : (t signal : ℕ) → runs here ≡ Some t
      → EventDeed here tid kind.Signal (handled here t signal (interruption_here here t))
  SignalKills : (t signal killer : ℕ) → runs here ≡ Some t
      → EventDeed here tid kind.Signal
      (record (only_taken here t signal (interruption_here here t)) { ended = Some (Killed killer) })

module _ (here : Here) (tid : ℕ) where
  either : (k : Kind) (b : Bool) (x y : Done) → (b ≡ true → EventDeed here tid k x)
      → (b ≡ false → EventDeed here tid k y) → EventDeed here tid k (cond b x y)
  either k true x y p q = p refl
  either k false x y p q = q refl

  deed_call : (t : ℕ) (e : Effect) (b : Bool) → IsNext here t e → is_call e ≡ true → is_inside_here here t ≡ b
      → EventDeed here tid kind.Exec (by_call here (cond b (killed_in_call here) (called here t)))
  deed_call t e true next calls is = CallKills t e next calls
  deed_call t e false next calls is = Calls t e next calls is

  deed_effect : (t : ℕ) (fault : Option ℕ) (o : Option Effect) → runs here ≡ Some t
      → next_fault here t ≡ fault → next_effect here t ≡ o
      → EventDeed here tid kind.Exec (by_effect here t fault o)
  deed_effect t (Some signal) o at fault is =
      let its : IsFault here t signal = record { at = at; fault = fault } in
      either kind.Exec (has_handler here t signal) _ _ (λ handler. Faults t signal its handler)
      (λ _. FaultKills t signal its)
  deed_effect t None None at none is = Skips
  deed_effect t None (Some e) at none is =
      let next : IsNext here t e = record { at = at; none = none; is = is } in
      either kind.Exec (is_call e) _ _ (λ calls. deed_call t e (is_inside_here here t) next calls refl)
      (λ _. Executes t e next)

  deed_exec : (r : Option ℕ) → runs here ≡ r → EventDeed here tid kind.Exec (done_exec_by here r)
  deed_exec None at = Nothing kind.Exec
  deed_exec (Some t) at = deed_effect t (next_fault here t) (next_effect here t) at refl refl

  deed_drain : (ws : List Store) → waiting_here here ≡ ws
      → EventDeed here tid kind.Drain (done_drain_of here ws)
  deed_drain [] is = Nothing kind.Drain
  deed_drain (w ∷ ws) is = Drains w ws is

  deed_take : (restart : Bool) (r : Option ℕ) → runs here ≡ r
      → EventDeed here tid kind.Take (done_take_by here restart r)
  deed_take true (Some t) at = Restarts t at
  deed_take b o at = Takes

  deed_done : (r : Option ℕ) → runs here ≡ r → EventDeed here tid kind.Done (done_done_by here r)
  deed_done None at = Nothing kind.Done
  deed_done (Some t) at = Returns t at

  deed_preempt : (r : Option ℕ) → runs here ≡ r → EventDeed here tid kind.Preempt (done_preempt_by here r)
  deed_preempt None at = Nothing kind.Preempt
  deed_preempt (Some t) at = Preempts kind.Preempt t refl at

  deed_delivery : (t signal : ℕ) (killer : Option ℕ) → runs here ≡ Some t
      → EventDeed here tid kind.Signal (handled_unless_killed here t signal (interruption_here here t) killer)
  deed_delivery t signal None at = Handles t signal at
  deed_delivery t signal (Some killer) at = SignalKills t signal killer at

  deed_next : (t : ℕ) (next : Option ℕ) → runs here ≡ Some t
      → EventDeed here tid kind.Signal (done_next here t next)
  deed_next t None at = Nothing kind.Signal
  deed_next t (Some signal) at = deed_delivery t signal (kills here t signal (interruption_here here t)) at

  deed_signal : (r : Option ℕ) → runs here ≡ r → EventDeed here tid kind.Signal (done_signal_by here r)
  deed_signal None at = Nothing kind.Signal
  deed_signal (Some t) at = deed_next t (next_for t here.kernel.signals) at

pub deed_of : (here : Here) (k : Kind) (x : Entry) → EventDeed here x.tid.0 k (done_of (choice_with k x) here)
deed_of here kind.Exec x = deed_exec here x.tid.0 (runs here) refl
deed_of here kind.Drain x = deed_drain here x.tid.0 (waiting_here here) refl
deed_of here kind.Take x = deed_take here x.tid.0 here.restart (runs here) refl
deed_of here kind.Done x = deed_done here x.tid.0 (runs here) refl
deed_of here kind.Preempt x = deed_preempt here x.tid.0 (runs here) refl
deed_of here kind.Run x =
    either here x.tid.0 kind.Run (lives_on here x.tid.0 (interruption_here here x.tid.0)) _ _ (λ _. Runs)
    (λ _. RunKills)
deed_of here kind.Signal x = deed_signal here x.tid.0 (runs here) refl

-- the thread of a choice that begins to run; 0 of any other one
abbrev pub begun_by : Choice → ℕ
begun_by c = option_map_or (λ (t : Tid). t.0) (named_by c) 0

pub deed_chosen : (here : Here) (c : Choice) → EventDeed here (begun_by c) (kind_of c) (done_of c here)
deed_chosen here asked.Exec = deed_exec here 0 (runs here) refl
deed_chosen here asked.Drain = deed_drain here 0 (waiting_here here) refl
deed_chosen here asked.Take = deed_take here 0 here.restart (runs here) refl
deed_chosen here asked.Done = deed_done here 0 (runs here) refl
deed_chosen here asked.Preempt = deed_preempt here 0 (runs here) refl
deed_chosen here (asked.Run t) =
    either here t.0 kind.Run (lives_on here t.0 (interruption_here here t.0)) _ _ (λ _. Runs) (λ _. RunKills)
deed_chosen here asked.Signal = deed_signal here 0 (runs here) refl
