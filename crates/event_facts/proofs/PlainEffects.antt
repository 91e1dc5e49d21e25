-- The effect of the next instruction of a hart's thread, where it makes neither a fault nor a call; and the sizes of its accesses.
use Rattle.std.proofs.Common.{◌≡◌, ℕ, refl, ap, ◌∙◌, subst, Bool, true, false, not, ◌&&◌, cond, Option, Some, None, is_none}
use Rattle.std.specs.Option.{IfSome, option_map}
use Rattle.mach_types.specs.declared.events.Choice.TheVariants as asked
use Rattle.mach_types.specs.declared.registers.Regs.{Regs}
use Rattle.rv_inst.specs.Class.{is_call}
use Rattle.rv_inst.specs.Meaning.{meaning}
use Rattle.rv_inst.specs.Sizes.{HasAccessSizes}
use Rattle.rv_inst.specs.declared.effects.Effect.{Effect}
use Rattle.rv_inst.specs.declared.instruction.Inst.{Inst}
use Rattle.rv_inst.proofs.Laws.{meaning-sized}
use Rattle.block_model.specs.Events.Exec.{next_fault}
use Rattle.block_model.specs.Here.{Here, runs}
use Rattle.block_model.specs.Instruction.{fetched, instruction_of}
use Rattle.block_model.specs.PlainEvents.{is_plain_exec_by, is_plain_exec_of}
use Rattle.block_model.specs.Sights.{effect_here, effect_on, fault_here, fault_on}
use Rattle.event_facts.specs.Facts.{executed_by}

-- where there is no instruction
pub no_effect : (here : Here) → effect_here here ≡ None → executed_by asked.Exec here ≡ None
no_effect here none = go (is_plain_exec_by here (runs here))
  where
    go : (b : Bool) → cond b (effect_here here) None ≡ None
    go true = none
    go false = refl

-- whether it is plain
plain_is : (here : Here) (o : Option ℕ) (e : Effect) → effect_on here o ≡ Some e → is_plain_exec_by here o ≡ (is_none (fault_on here o) && not (is_call e))
plain_is here None e is = absurd cc
plain_is here (Some t) e is = ap (is_plain_exec_of (next_fault here t)) is

pub effect_is : (here : Here) (e : Effect) (b : Bool) → effect_here here ≡ Some e → (is_none (fault_here here) && not (is_call e)) ≡ b
    → executed_by asked.Exec here ≡ cond b (Some e) None
effect_is here e b is test =
    ap (λ x. cond x (effect_here here) None) (plain_is here (runs here) e is ∙ test) ∙ ap (λ o. cond b o None) is

-- its accesses have proper sizes
sized : (o : Option Inst) (regs : Regs) (pc : ℕ) (e : Effect) → option_map (λ i. meaning i regs pc) o ≡ Some e → HasAccessSizes e
sized None regs pc e is = absurd cc
sized (Some i) regs pc e is = let same : meaning i regs pc ≡ e = cc in subst HasAccessSizes same (meaning-sized i regs pc)

sized_on : (here : Here) (o : Option ℕ) (e : Effect) → effect_on here o ≡ Some e → HasAccessSizes e
sized_on here None e is = absurd cc
sized_on here (Some t) e is = sized (instruction_of (fetched here.setting.program.pages (here.file t).pc)) (here.file t).file (here.file t).pc e is

pub effect_sized : (here : Here) (e : Effect) → effect_here here ≡ Some e → HasAccessSizes e
effect_sized here e is = sized_on here (runs here) e is

pub sized_if : (b : Bool) (e : Effect) → HasAccessSizes e → IfSome (cond b (Some e) None) HasAccessSizes
sized_if true e has = has
sized_if false e has = tt
