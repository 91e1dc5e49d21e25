-- What the next instruction of a thread does, by its effect and its fault.
use Rattle.process.proofs.Common.{◌≡◌, ◌≢◌, ℕ, refl, sym, ap, ◌∙◌, Bool, true, false, cond, is_some, Option, Some, None, length, option_map, option_or, Done, Effect, HartState, Here, Why, done_of, file_on, hart_in, refusal_of, runs, thread, Idle, InBarrier, is_call, fault_in, instruction_gate, exec_refusal, outcome_on, called, killed_in_call, is_inside_here, by_call, by_outcome, has_handler, is_held, next_effect, next_fault, others_gate, outcome_of, refusal_exec_by, unless_in_barrier, is_storable, reached, waiting_here, signalled, Killed, outcome, by_fault, one_instruction, view_of_all}
use Rattle.mach_types.specs.Kernel.Signals.{with_fault}
use Rattle.block_model.specs.Events.Exec.{fault_told}
use Rattle.rv_inst.specs.declared.effects.Effect.TheVariants as effect
use Rattle.mach_types.specs.declared.events.Choice.TheVariants as asked
use Rattle.block_model.specs.Instruction as instruction

-- a fault, a call, and another instruction
pub done_fault : (here : Here) (t signal : ℕ) → runs here ≡ Some t → next_fault here t ≡ Some signal → done_of asked.Exec here ≡ by_fault here t signal
done_fault here t signal at fault = rw (at, fault) refl

-- one with a handler, whose signal becomes pending, and one without, which kills
abbrev pub fault_pending : Here → ℕ → ℕ → Done
fault_pending here t signal = record (one_instruction here) { kernel = signalled (with_fault t (fault_told here t signal) here.kernel.signals) here.kernel }

abbrev pub fault_killing : Here → ℕ → Done
fault_killing here signal = record (one_instruction here) { ended = Some (Killed signal) }

pub done_pending : (here : Here) (t signal : ℕ) → runs here ≡ Some t → next_fault here t ≡ Some signal → has_handler here t signal ≡ true
    → done_of asked.Exec here ≡ fault_pending here t signal
done_pending here t signal at fault has = done_fault here t signal at fault ∙ ap (λ b. cond b (fault_pending here t signal) (fault_killing here signal)) has

pub done_killing : (here : Here) (t signal : ℕ) → runs here ≡ Some t → next_fault here t ≡ Some signal → has_handler here t signal ≡ false
    → done_of asked.Exec here ≡ fault_killing here signal
done_killing here t signal at fault lacks = done_fault here t signal at fault ∙ ap (λ b. cond b (fault_pending here t signal) (fault_killing here signal)) lacks

pub done_call : (here : Here) (t : ℕ) → runs here ≡ Some t → next_fault here t ≡ None → next_effect here t ≡ Some effect.Call → is_inside_here here t ≡ false
    → done_of asked.Exec here ≡ by_call here (called here t)
done_call here t at fault is outside = rw (at, fault, is, outside) refl

pub done_inside : (here : Here) (t : ℕ) → runs here ≡ Some t → next_fault here t ≡ None → next_effect here t ≡ Some effect.Call → is_inside_here here t ≡ true
    → done_of asked.Exec here ≡ by_call here (killed_in_call here)
done_inside here t at fault is inside = rw (at, fault, is, inside) refl

pub done_plain : (here : Here) (t : ℕ) (e : Effect) → runs here ≡ Some t → next_fault here t ≡ None → next_effect here t ≡ Some e → is_call e ≡ false → done_of asked.Exec here ≡ by_outcome here t (outcome_of here t e)
done_plain here t e at fault is no_call = rw (at, fault, is, no_call) refl

-- the next instruction of the thread on a hart that is kept so
module _ (here : Here) (t ran events credit : ℕ) (x : HartState) (e : Effect) (own : x ≡ hart_in here ran events credit) (at : runs here ≡ Some t)
  where
    -- what it does there is what it does at the place
    pub outcome_same : (byte : ℕ → Option ℕ) → byte ≡ reached here → outcome_on x byte e ≡ outcome_of here t e
    outcome_same byte bytes =
        ap (λ (y : HartState). outcome_on y byte e) own
        ∙ ap (λ (b : ℕ → Option ℕ). outcome_on (hart_in here ran events credit) b e) bytes
        ∙ ap (λ (o : Option ℕ). outcome (view_of_all here) (file_on here o).file (file_on here o).pc here.reserved e) at

    -- what the hart asks before it performs it
    first : (a b : Option Why) → option_or a b ≡ None → a ≡ None
    first None b none = refl
    first (Some why) b none = cc

    pub not_refused : next_fault here t ≡ None → next_effect here t ≡ Some e → refusal_of asked.Exec here ≡ None → exec_refusal x (Some e) false ≡ None
    not_refused fault is free =
        ap (λ (y : HartState). exec_refusal y (Some e) false) own
        ∙ ap
        (λ (o : Option ℕ).
        cond (is_some (option_map thread o))
        (cond (is_some here.awaits) (Some InBarrier) (instruction_gate (length (waiting_here here)) (Some e) false)) (Some Idle))
        at
        ∙ by_barrier here.awaits (sym (ap (refusal_exec_by here) at) ∙ free)
      where
        gate : Option Effect → Option ℕ → Option Why
        gate effect signal = instruction_gate (length (waiting_here here)) effect (is_some signal)

        by_barrier : (a : Option ℕ)
            → unless_in_barrier a (option_or (gate (next_effect here t) (next_fault here t)) (others_gate (is_held here t) (next_effect here t))) ≡ None
            → cond (is_some a) (Some InBarrier) (gate (Some e) None) ≡ None
        by_barrier (Some left) free = cc
        by_barrier None free =
            ap (λ (o : Option Effect). gate o None) (sym is)
            ∙ ap (gate (next_effect here t)) (sym fault)
            ∙ first (gate (next_effect here t) (next_fault here t)) (others_gate (is_held here t) (next_effect here t)) free

pub no_fault : (here : Here) (t : ℕ) (byte : ℕ → Option ℕ) (writable : ℕ → Bool) (e : Effect) → byte ≡ reached here → writable ≡ is_storable here → next_fault here t ≡ None → next_effect here t ≡ Some e → fault_in byte writable e ≡ None
no_fault here t byte writable e same can fault is = rw (same, can) (by_effect_of (next_effect here t) is fault)
  where
    by_effect_of : (o : Option Effect) → o ≡ Some e → instruction.fault_by (reached here) (is_storable here) (here.file t).pc (instruction.fetched here.setting.program.pages (here.file t).pc) o ≡ None → fault_in (reached here) (is_storable here) e ≡ None
    by_effect_of o same none = ap (λ z. instruction.fault_by (reached here) (is_storable here) (here.file t).pc (instruction.fetched here.setting.program.pages (here.file t).pc) z) (sym same) ∙ none

pub no_call : (e : Effect) → is_call e ≡ false → e ≢ effect.Call
no_call e is same = let bad : true ≡ false = ap is_call (sym same) ∙ is in absurd (cc)
