-- Instructions that set a register and the pc and do nothing else, told by their step; a hart that goes freely, told by the list; and
-- the event of such an instruction.
use Rattle.process.proofs.Common.{◌≡◌, ℕ, ◌+◌, ◌<◌, List, get_or, refl, sym, ap, subst, ◌∙◌, length, set, Bool, true, false, is_some, slice_get, same_Some, slice_get-get_or, append-nil, cases_eq, eq-eqb, ne_eqb, inl, inr, Option, Some, None, option_map_or, Effect, HasAccessSizes, Hart, HartState, ImagePage, IsAfter, IsAlone, IsChanged, IsPlace, IsPlainStep, Parts, Stand, byte_in, can_write_in, counted, done_of, file_of, here_at, refusal_of, sets_register, stepped}
use Rattle.std.specs.Vec.{with_item}
use Rattle.mach_types.specs.Registers.{with_register}
use Rattle.mach_types.specs.declared.events.Choice.TheVariants as asked
use Rattle.rv_inst.specs.declared.effects.Effect.TheVariants as effect
use Rattle.process.specs.PlainSteps.{goes_free, register_step}
use Rattle.process.specs.declared.plain.PlainStep.{PlainStep}
use Rattle.process.specs.declared.plain.PlainStep.TheVariants as step
use Rattle.block_model.specs.Instruction.{next_effect}
use Rattle.process.proofs.FreeInstructions.{gate_of_free}
use Rattle.process.proofs.HartStates.{get_set_other, get_set_same}
use Rattle.process.proofs.Places.{in_list}
use Rattle.process.proofs.PlainSteps.{next_step, plain_executed}

-- what such an instruction does is a plain step
value_is_plain : (byte : ℕ → Option ℕ) (can_write : ℕ → Bool) (x : HartState) (rd value pc : ℕ)
    → IsPlainStep byte can_write (effect.Next rd value pc) x (step.Value rd value pc)
value_is_plain byte can_write x rd value pc = record {
  no_call = refl;
  allowed = gate_of_free (length x.buffer) (Some (effect.Next rd value pc)) refl;
  no_fault = refl;
  fits = tt;
  hart = λ i. record (stepped (step.Value rd value pc) x) { buffer = sym (append-nil x.buffer) i };
  none_made = refl;
}

-- the instruction behind a step
pub record IsFreeStep (byte : ℕ → Option ℕ) (can_write : ℕ → Bool) (x : HartState) (o : Option Effect) (does : PlainStep) : Type 0 where
  pub asked : Effect
  pub is : Some asked ≡ o
  pub sizes : HasAccessSizes asked
  pub plain : IsPlainStep byte can_write asked x does

pub free_step_is : (byte : ℕ → Option ℕ) (can_write : ℕ → Bool) (x : HartState) (o : Option Effect) (does : PlainStep) → register_step o ≡ Some does
    → IsFreeStep byte can_write x o does
free_step_is byte can_write x None does is = absurd cc
free_step_is byte can_write x (Some (effect.Next rd value pc)) does is = record {
  asked = effect.Next rd value pc;
  is = refl;
  sizes = tt;
  plain = subst (IsPlainStep byte can_write (effect.Next rd value pc) x) (same_Some (step.Value rd value pc) does is) (value_is_plain byte can_write x rd value pc);
}
free_step_is byte can_write x (Some e) does is = absurd cc

-- there is one exactly where the instruction sets a register
pub has_step : (o : Option Effect) → is_some (register_step o) ≡ option_map_or sets_register o false
has_step None = refl
has_step (Some (effect.Next rd value pc)) = refl
has_step (Some e) = refl

-- told by the hart of the list
pub free_at : (code : List ImagePage) (xs : List HartState) (h : ℕ) (own x : HartState) (b : Bool) → h < length xs → own ≡ get_or xs h own → slice_get xs h ≡ Some x
    → b ≡ goes_free code own → b ≡ goes_free code x
free_at code xs h own x b within value at is =
    is ∙ ap (goes_free code) (same_Some own x (ap Some value ∙ sym (slice_get-get_or xs h own within) ∙ at))

-- the counts of one hart
counted_at : (xs : List HartState) (h : ℕ) (x z : HartState) → slice_get xs h ≡ Some x → IsChanged h counted (set xs h z) (set xs h (counted z))
counted_at xs h x z there k = elim (cases_eq k h) [
  | inl same ↦ rw (same, eq-eqb h h refl, get_set_same xs h x z there, get_set_same xs h x (counted z) there) refl
  | inr ne ↦ rw (ne_eqb k h ne, get_set_other xs h k z ne, get_set_other xs h k (counted z) ne) refl
]

-- such an instruction is allowed where a thread runs that waits in no barrier, and these are the parts after its event
pub free_event : (v : Stand) (m : Parts) (h : Hart) (x : HartState) (code : List ImagePage) (rd value pc : ℕ) → IsPlace v m h.0 → IsAlone code v → x ≡ get_or m.harts.items h.0 x
    → Some (effect.Next rd value pc) ≡ next_effect code (file_of x) → is_some x.running ≡ true → is_some x.waits ≡ false
    → (refusal_of asked.Exec (here_at v h.0) ≡ None) × IsAfter v h.0 (done_of asked.Exec (here_at v h.0)) m (record m {
      harts = with_item m.harts h.0 (record x { file = with_register x.file rd value; pc = pc; ran = x.ran + 1; events = x.events + 1 });
    })
free_event v m h x code rd value pc place alone here read runs waits =
    let does = step.Value rd value pc in
    let next = next_step v m h.0 x does code (effect.Next rd value pc) place alone here read tt runs waits (value_is_plain (byte_in m.pages) (can_write_in m.pages) x rd value pc) in
    let there : slice_get m.harts.items h.0 ≡ Some x = slice_get-get_or m.harts.items h.0 x (in_list v m h.0 place) ∙ ap Some (sym here) in
    let z : HartState = record x { file = with_register x.file rd value; pc = pc; ran = x.ran + 1 } in
    (next.plan.free, (plain_executed v m h x (stepped does x) does place next here refl).after _ (record { harts = counted_at m.harts.items h.0 x z there; pages = refl; kernel = refl; ended = refl }))
