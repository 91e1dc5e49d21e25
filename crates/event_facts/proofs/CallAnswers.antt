-- System calls: which one the thread on a hart makes, and how it was answered.
use Rattle.std.proofs.Common.{◌≡◌, ℕ, refl, ap, ◌∙◌, subst, Bool, true, false, not, ◌&&◌, cond, Option, Some, None, is_none}
use Rattle.std.proofs.lemmas.Bool.{eqb-true, false≢true}
use Rattle.std.specs.Option.{IsSome}
use Rattle.mach_types.specs.declared.events.Choice.{Choice}
use Rattle.mach_types.specs.declared.threads.Saved.{Saved}
use Rattle.rv_inst.specs.Class.{is_call}
use Rattle.rv_inst.specs.declared.effects.Effect.{Effect}
use Rattle.block_model.specs.Events.Exec.{next_effect, next_fault}
use Rattle.block_model.specs.Here.{Here, runs}
use Rattle.block_model.specs.PlainEvents.{is_plain_exec_by, is_plain_exec_of}
use Rattle.block_model.specs.Sights.{effect_on, fault_on}
use Rattle.process.specs.Harts.{file_on}
use Rattle.fact_types.specs.declared.calls.SystemCall.{SystemCall}
use Rattle.event_facts.specs.Calls.{call_by, call_in, call_on, is_calling, is_it}
use Rattle.event_facts.specs.Telling.{plain_event_of}
use Rattle.event_facts.specs.declared.telling.PlainEvent.{PlainEvent}
use Rattle.event_facts.specs.declared.telling.PlainEvent.TheVariants.{Instruction, Drain}
use Rattle.event_facts.proofs.PlainKinds.{Executes, drains, executes}

-- WHICH CALL

-- none where there is no instruction
pub no_call : (here : Here) (o : Option ℕ) → effect_on here o ≡ None → call_on here o ≡ None
no_call here None is = refl
no_call here (Some t) is =
    ap (λ (x : Option Effect). let c : Option SystemCall = cond (is_calling (next_fault here t) x) (Some (call_in (here.file t).file)) None in c) is

pub call_there : (here : Here) (o : Option ℕ) (e : Effect) → effect_on here o ≡ Some e
    → call_on here o ≡ cond (is_none (fault_on here o) && is_call e) (Some (call_in (file_on here o).file)) None
call_there here None e is = absurd cc
call_there here (Some t) e is =
    ap (λ (x : Option Effect). let c : Option SystemCall = cond (is_calling (next_fault here t) x) (Some (call_in (here.file t).file)) None in c) is

-- a plain event is none
not_both : (f : Bool) (e : Effect) → (f && not (is_call e)) ≡ true → (f && is_call e) ≡ false
not_both false e is = refl
not_both true e is = go (is_call e) is
  where
    go : (b : Bool) → not b ≡ true → b ≡ false
    go true is = absurd cc
    go false is = refl

plain_calls_none : (here : Here) (o : Option ℕ) → is_plain_exec_by here o ≡ true → call_on here o ≡ None
plain_calls_none here None is = refl
plain_calls_none here (Some t) is = go (next_effect here t) is
  where
    go : (x : Option Effect) → is_plain_exec_of (next_fault here t) x ≡ true
        → cond (is_calling (next_fault here t) x) (Some (call_in (here.file t).file)) None ≡ None
    go None is = refl
    go (Some e) is = ap (λ b. let c : Option SystemCall = cond b (Some (call_in (here.file t).file)) None in c) (not_both (is_none (next_fault here t)) e is)

executes_none : (c : Choice) (here : Here) (e : Effect) → Executes c here e → call_by c here ≡ None
executes_none c here e x = ap (λ k. call_by k here) x.choice ∙ plain_calls_none here (runs here) x.plain

pub no_plain_call : (c : Choice) (here : Here) (p : PlainEvent) → plain_event_of c here ≡ Some p → call_by c here ≡ None
no_plain_call c here (Instruction e) is = executes_none c here e (executes c here e is)
no_plain_call c here (Drain w) is = ap (λ k. call_by k here) (drains c here w is).choice

-- ITS ANSWER

-- the thread that runs is the one that made the call
pub it_runs : (here : Here) (t : ℕ) (o : Option ℕ) → is_it t o ≡ true → file_on here o ≡ here.file t
it_runs here t None is = absurd cc
it_runs here t (Some u) is = ap here.file (eqb-true u t is)

-- nothing isn't something
pub nothing_saved : (o : Option Saved) → o ≡ None → IsSome o → ⊥
nothing_saved o none has = false≢true (subst IsSome none has)
