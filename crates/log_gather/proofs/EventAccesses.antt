-- What a plain event touches is what its access does, as code finds it.
use Rattle.std.proofs.Common.{◌≡◌, ℕ, List, [], ◌∷◌, refl, sym, ap, ◌∙◌, Bool, true, false, cond, not, ◌&&◌, Option, Some, None, is_none, is_some}
use Rattle.std.specs.Option.{option_and_then}
use Rattle.std.specs.Prelude.{slice_get}
use Rattle.std.proofs.lemmas.Option.{same_Some}
use Rattle.mach_types.specs.Bytes.{all_stored}
use Rattle.mach_types.specs.declared.events.Choice.TheVariants as asked
use Rattle.mach_types.specs.declared.user_memory.Store.{Store}
use Rattle.rv_inst.specs.Class.{is_call}
use Rattle.rv_inst.specs.Execution.{Outcome, is_reserved}
use Rattle.rv_inst.specs.declared.effects.Effect.{Effect}
use Rattle.rv_inst.specs.declared.effects.Effect.TheVariants as effect
use Rattle.block_model.specs.Events.Drain.{done_drain_of}
use Rattle.block_model.specs.Events.Exec.{by_call, by_effect, by_outcome, called_here, done_exec_by, next_effect, next_fault, outcome_of}
use Rattle.rv_inst.specs.Accesses.{read_by, reserved_by, written_by}
use Rattle.block_model.specs.Footprints.{bytes_of_all}
use Rattle.block_model.specs.Here.{Here, runs, waiting_here}
use Rattle.block_model.specs.PlainEvents.{footprint_drain, footprint_exec, footprint_of, is_plain, is_plain_exec_by, is_plain_exec_of, reserved_exec}
use Rattle.block_model.specs.Sights.{effect_here, effect_on, fault_here, fault_on}
use Rattle.log_gather.specs.declared.accesses.Access.{Access}
use Rattle.log_gather.specs.Accesses.{IsAccess, bytes_in, bytes_of_store, entered_by, plain_effect_here, plain_effect_of}

-- AN INSTRUCTION

-- it is the one that is executed next
same_effect : (f : Option ℕ) (x : Option Effect) (e : Effect) → plain_effect_of f x ≡ Some e → x ≡ Some e
same_effect f None e is = cc
same_effect f (Some x) e is = go (is_none f && not (is_call x)) is
  where
    go : (b : Bool) → cond b (Some x) None ≡ Some e → Some x ≡ Some e
    go true is = is
    go false is = cc

-- where there is one, the event is plain
some_plain : (f : Option ℕ) (x : Option Effect) → is_some (plain_effect_of f x) ≡ is_plain_exec_of f x
some_plain f None = refl
some_plain f (Some x) = go (is_none f && not (is_call x))
  where
    go : (b : Bool) → is_some (cond b (Some x) None) ≡ b
    go true = refl
    go false = refl

pub plain_next : (here : Here) → is_some (plain_effect_here here) ≡ is_plain asked.Exec here
plain_next here = go (runs here)
  where
    go : (o : Option ℕ) → is_some (plain_effect_of (fault_on here o) (effect_on here o)) ≡ is_plain_exec_by here o
    go None = refl
    go (Some t) = some_plain (next_fault here t) (next_effect here t)

footprint_next : (here : Here) (o : Option ℕ) → footprint_exec here o ≡ footprint_of (effect_on here o)
footprint_next here None = refl
footprint_next here (Some t) = refl

reserved_next : (here : Here) (o : Option ℕ) → reserved_exec here o ≡ option_and_then reserved_by (effect_on here o)
reserved_next here None = refl
reserved_next here (Some t) = refl

-- what it writes at once
either_entered : (b : Bool) (x y : Outcome) (ws : List Store) → x.entered ≡ ws → y.entered ≡ []
    → bytes_of_all (all_stored (cond b x y).entered) ≡ cond b (bytes_of_all (all_stored ws)) []
either_entered true x y ws p q = ap (λ l. bytes_of_all (all_stored l)) p
either_entered false x y ws p q = ap (λ l. bytes_of_all (all_stored l)) q

outcome_entered : (here : Here) (t : ℕ) (e : Effect) → bytes_of_all (all_stored (outcome_of here t e).entered) ≡ entered_by here.reserved e
outcome_entered here t (effect.Sc at size value rd) =
    either_entered (is_reserved here.reserved at) _ _ (record { at = at; size = size; value = value } ∷ []) refl refl
outcome_entered here t e = refl

effect_entered : (here : Here) (t : ℕ) (f : Option ℕ) (x : Option Effect) (e : Effect) → plain_effect_of f x ≡ Some e
    → bytes_of_all (by_effect here t f x).entered ≡ entered_by here.reserved e
effect_entered here t f None e is = cc
effect_entered here t (Some signal) (Some x) e is = cc
effect_entered here t None (Some x) e is = go (is_call x) is
  where
    go : (b : Bool) → cond (not b) (Some x) None ≡ Some e
        → bytes_of_all (cond b (by_call here (called_here here t)) (by_outcome here t (outcome_of here t x))).entered ≡ entered_by here.reserved e
    go true is = cc
    go false is = outcome_entered here t x ∙ ap (entered_by here.reserved) (same_Some x e is)

exec_entered : (here : Here) (o : Option ℕ) (e : Effect) → plain_effect_of (fault_on here o) (effect_on here o) ≡ Some e
    → bytes_of_all (done_exec_by here o).entered ≡ entered_by here.reserved e
exec_entered here None e is = cc
exec_entered here (Some t) e is = effect_entered here t (next_fault here t) (next_effect here t) e is

pub access_exec : (here : Here) (e : Effect) (a : Access) → plain_effect_here here ≡ Some e → bytes_in a.reads ≡ read_by e → bytes_in a.writes ≡ written_by e
    → bytes_in a.entered ≡ entered_by here.reserved e → a.reserves ≡ reserved_by e → IsAccess asked.Exec here a
access_exec here e a is reads writes entered reserves =
    let next : effect_here here ≡ Some e = same_effect (fault_here here) (effect_here here) e is in
    let touched = footprint_next here (runs here) ∙ ap footprint_of next in
    record {
      reads = reads ∙ sym (ap (λ x. x.reads) touched);
      writes = writes ∙ sym (ap (λ x. x.writes) touched);
      entered = entered ∙ sym (exec_entered here (runs here) e is);
      reserves = reserves ∙ sym (reserved_next here (runs here) ∙ ap (option_and_then reserved_by) next);
    }

-- A STORE THAT ENTERS MEMORY

drain_reads : (ws : List Store) → (footprint_drain ws).reads ≡ []
drain_reads [] = refl
drain_reads (w ∷ ws) = refl

drain_writes : (ws : List Store) → bytes_of_store (slice_get ws 0) ≡ (footprint_drain ws).writes
drain_writes [] = refl
drain_writes (w ∷ ws) = refl

drain_entered : (here : Here) (ws : List Store) → bytes_of_store (slice_get ws 0) ≡ bytes_of_all (done_drain_of here ws).entered
drain_entered here [] = refl
drain_entered here (w ∷ ws) = refl

pub access_drain : (here : Here) (o : Option Store) (a : Access) → o ≡ slice_get (waiting_here here) 0 → bytes_in a.reads ≡ []
    → bytes_in a.writes ≡ bytes_of_store o → bytes_in a.entered ≡ bytes_of_store o → a.reserves ≡ None → IsAccess asked.Drain here a
access_drain here o a is reads writes entered reserves = record {
  reads = reads ∙ sym (drain_reads (waiting_here here));
  writes = writes ∙ ap bytes_of_store is ∙ drain_writes (waiting_here here);
  entered = entered ∙ ap bytes_of_store is ∙ drain_entered here (waiting_here here);
  reserves = reserves;
}
