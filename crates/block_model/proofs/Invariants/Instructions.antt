-- An instruction.
use Rattle.block_model.proofs.Common.{◌≡◌, ℕ, ◌+◌, ◌≤◌, List, [], ◌∷◌, refl, sym, ap, ◌∙◌, arith, Bool, true, false, not, cond, ◌&&◌, ◌||◌, leb, ltb, Option, Some, None, length, is_some, AllByRecursion, Effect, FullBuffer, Here, IsGoodHere, MayEnter, Neighbour, Others, Pages, Regs, Store, Why, by_call, by_outcome, call_number, called, can_write, each_byte, fault_by, fault_in, fetched, instruction_gate, is_call, is_held, is_inside_here, is_reserved, is_storable, leb-false, lies_waiting_on, lt-ltb, next_effect, next_fault, option_or, or_in_segment, others_gate, outcome, outcome_of, permission_at, reached, refusal_exec, refusal_exec_by, runs, taken_by, unless_allowed, view_of_all, waiting_here, fault_told, with_fault}
use Rattle.mach_types.specs.declared.events.Why.TheVariants.{Waiting}
use Rattle.mach_types.specs.declared.user_memory.TheConstants.{STORE_BUFFER_CAPACITY}
use Rattle.rv_inst.specs.declared.effects.Effect.TheVariants as effect
use Rattle.rv_inst.specs.Class.{is_plain_store, wants_empty}
use Rattle.rv_inst.specs.Execution.{Outcome}
use Rattle.block_model.specs.Events.Exec.{one_instruction}
use Rattle.block_model.specs.Kernel.{signalled}
use Rattle.block_model.proofs.Barriers.Events.{quiet_free}
use Rattle.block_model.proofs.EventEffects.{IsNext}
use Rattle.block_model.proofs.PlaceInvariant.{IsFit}
use Rattle.block_model.proofs.Invariants.Calls.Conditions.{fit_by_call, own_apart, apart_none}
use Rattle.block_model.proofs.Invariants.Calls.RecordSteps.{kept_signalled}
use Rattle.block_model.proofs.Invariants.Calls.EachCall.{fit_called}
use Rattle.block_model.proofs.Invariants.Events.{fit_staying, out_of_barrier}
use Rattle.block_model.proofs.SignalTables.{fault_keeps}

-- what a plain store executes, where it doesn't fault: one store that may enter; no other instruction executes one
pub record IsExecuted (beside : Option Neighbour) (p : Pages) (e : Effect) (o : Outcome) : Type 0 where
  pub may : AllByRecursion (MayEnter beside p) o.executed
  pub one : length o.executed ≤ cond (is_plain_store e) 1 0

none_executed : (beside : Option Neighbour) (p : Pages) (e : Effect) (o : Outcome) → o.executed ≡ [] → IsExecuted beside p e o
none_executed beside p e o none = record { may = rw none tt; one = rw none (omega arith) }

either_outcome : (b : Bool) (x y : Outcome) → x.executed ≡ [] → y.executed ≡ [] → (cond b x y).executed ≡ []
either_outcome true x y p q = p
either_outcome false x y p q = q

allowed_true : (b : Bool) → unless_allowed b ≡ None → b ≡ true
allowed_true true e = refl
allowed_true false e = cc

executed_by : (beside : Option Neighbour) (p : Pages) (byte seen : ℕ → Option ℕ) (regs : Regs) (pc : ℕ) (r : Option ℕ) (e : Effect)
    → fault_in byte (or_in_segment beside (λ a. can_write (permission_at p a))) e ≡ None → IsExecuted beside p e (outcome seen regs pc r e)
executed_by beside p byte seen regs pc r (effect.Store at size value) fine = record { may = (allowed_true (each_byte (or_in_segment beside (λ a. can_write (permission_at p a))) at size) fine, tt); one = omega arith }
executed_by beside p byte seen regs pc r (effect.Sc at size value rd) fine = none_executed beside p (effect.Sc at size value rd) _ (either_outcome (is_reserved r at) _ _ refl refl)
executed_by beside p byte seen regs pc r e fine = none_executed beside p e _ refl

-- the gate leaves room for a plain store
room_by : (a b c : Bool) (n : ℕ) → (leb STORE_BUFFER_CAPACITY n ≡ b) → n ≤ STORE_BUFFER_CAPACITY → cond a (Some Waiting) (cond (b && c) (Some FullBuffer) None) ≡ None → n + cond c 1 0 ≤ STORE_BUFFER_CAPACITY
room_by false true false n is few e = omega arith
room_by false false true n is few e = let lt = leb-false STORE_BUFFER_CAPACITY n is in omega arith
room_by false false false n is few e = omega arith
room_by a b c n is few e = cc

gate_room : (n : ℕ) (e : Effect) (faults : Bool) → n ≤ STORE_BUFFER_CAPACITY → instruction_gate n (Some e) faults ≡ None → n + cond (is_plain_store e) 1 0 ≤ STORE_BUFFER_CAPACITY
gate_room n e faults few free = room_by _ (leb STORE_BUFFER_CAPACITY n) (is_plain_store e) n refl few free

-- a fault that is handled: the thread stays where it is, and a signal becomes pending for it
pub fit_fault : (here : Here) (t signal : ℕ) → IsGoodHere here
    → IsFit here (record (one_instruction here) { kernel = signalled (with_fault t (fault_told here t signal) here.kernel.signals) here.kernel })
fit_fault here t signal good =
    fit_staying here _ good refl refl (omega arith) refl refl (apart_none here)
    (kept_signalled here.setting (with_fault t (fault_told here t signal) here.kernel.signals) here.kernel good.kernel (fault_keeps t (fault_told here t signal) here.kernel.signals))

plain : (here : Here) (t : ℕ) (e : Effect) → IsGoodHere here → runs here ≡ Some t → here.awaits ≡ None → IsExecuted here.beside here.kernel.pages e (outcome_of here t e) → length (waiting_here here) + cond (is_plain_store e) 1 0 ≤ STORE_BUFFER_CAPACITY → IsFit here (by_outcome here t (outcome_of here t e))
plain here t e good at out is room = record {
  executed = is.may;
  few = let one = is.one in omega arith;
  drained = omega arith;
  idle = λ none. let bad : None ≡ Some t = sym none ∙ at in absurd (cc);
  others = λ k ne. refl;
  apart = λ k u f ne runs. own_apart here t (record { file = (outcome_of here t e).regs; pc = (outcome_of here t e).pc }) [] k u f good at ne runs;
  within = good.within;
  paged = λ is. is;
  given = omega arith;
  one = omega arith;
  barriers = quiet_free here _ refl refl refl out;
  kernel = good.kernel;
  held = λ is. is;
}

-- a call wants no store to wait
pub call_wants_empty : (e : Effect) → is_call e ≡ true → wants_empty e ≡ true
call_wants_empty effect.Call is = refl
call_wants_empty e is = cc

-- a call is made where no store waits
gate_waiting : (n : ℕ) (a b c : Bool) → a ≡ true → b ≡ true → cond (a && (false || b)) (Some Waiting) (cond c (Some FullBuffer) None) ≡ None → ⊥
gate_waiting n true true c p q e = cc
gate_waiting n true false c p q e = cc
gate_waiting n false b c p q e = cc

pub none_waits : (ws : List Store) (e : Effect) → wants_empty e ≡ true → instruction_gate (length ws) (Some e) false ≡ None → ws ≡ []
none_waits [] e is free = refl
none_waits (w ∷ ws) e is free = absurd (gate_waiting (length ws) (ltb 0 (length (w ∷ ws))) (wants_empty e) _ (lt-ltb 0 (length (w ∷ ws)) (omega arith)) is free)

-- and where no waiting store lies on a page that it would take
call_held : (call held : Bool) → cond (call && held) (Some Others) None ≡ None → call ≡ true → held ≡ false
call_held true false free is = refl
call_held b held free is = cc

pub gates : (a b : Option Why) → option_or a b ≡ None → (a ≡ None) × (b ≡ None)
gates None b free = (refl, free)
gates (Some why) b free = absurd cc

-- an instruction that is there and makes no fault: its thread waits in no barrier, and nothing else holds it up
record IsOpen (here : Here) (t : ℕ) (e : Effect) : Type 0 where
  pub out : here.awaits ≡ None
  pub gate : instruction_gate (length (waiting_here here)) (Some e) false ≡ None
  pub clear : others_gate (is_held here t) (Some e) ≡ None

open_where : (here : Here) (t : ℕ) (e : Effect) → IsNext here t e → refusal_exec here ≡ None → IsOpen here t e
open_where here t e next free =
    let own = λ (f : Option ℕ) (o : Option Effect). instruction_gate (length (waiting_here here)) o (is_some f) in
    let others = others_gate (is_held here t) in
    let effect = next_effect here t in
    let fault = next_fault here t in
    let both = out_of_barrier here.awaits (option_or (own fault effect) (others effect)) (ap (refusal_exec_by here) (sym next.at) ∙ free) in
    let each = gates (own fault effect) (others effect) both.1 in
    record {
      out = both.0;
      gate = sym (ap (λ (f : Option ℕ). own f effect) next.none ∙ ap (own None) next.is) ∙ each.0;
      clear = sym (ap others next.is) ∙ each.1;
    }

-- a call outside of a sequence is made
pub fit_call : (here : Here) (t : ℕ) (e : Effect) → IsGoodHere here → IsNext here t e → is_call e ≡ true → is_inside_here here t ≡ false
    → refusal_exec here ≡ None → IsFit here (by_call here (called here t))
fit_call here t e good next calls outside free =
    let its = open_where here t e next free in
    let taken = taken_by (call_number here t) here t in
    let clear = sym (ap (λ (b : Bool). not b && lies_waiting_on here.beside taken here.waiting here.setting.limits.harts) outside)
    ∙ call_held (is_call e) (is_held here t) its.clear calls in
    fit_by_call here taken (called here t) good its.out (none_waits (waiting_here here) e (call_wants_empty e calls) its.gate) clear
    (fit_called here t good next.at)

-- another instruction is executed
pub fit_executed : (here : Here) (t : ℕ) (e : Effect) → IsGoodHere here → IsNext here t e → refusal_exec here ≡ None
    → IsFit here (by_outcome here t (outcome_of here t e))
fit_executed here t e good next free =
    let its = open_where here t e next free in
    let its_file = here.file t in
    let fault = fault_by (reached here) (is_storable here) its_file.pc (fetched here.setting.program.pages its_file.pc) in
    plain here t e good next.at its.out
    (executed_by here.beside here.kernel.pages (reached here) (view_of_all here) its_file.file its_file.pc here.reserved e (sym (ap fault next.is) ∙ next.none))
    (gate_room (length (waiting_here here)) e false good.few its.gate)
