-- An instruction of a block changes no register but those that the block may change, whether or not a sequence is
-- open.
use Rattle.std.proofs.Common.{◌≡◌, ℕ, List, [], ◌∷◌, refl, ap, ◌∙◌, Bool, true, false, cond, Option, Some, None}
use Rattle.mach_types.proofs.Laws.{eqb_same}
use Rattle.mach_types.specs.Events.{choice_with}
use Rattle.mach_types.specs.Registers.{register}
use Rattle.mach_types.specs.declared.events.Kind.TheVariants as kind
use Rattle.mach_types.specs.declared.sequences.Area.{Area}
use Rattle.mach_types.specs.declared.threads.Saved.{Saved}
use Rattle.rv_inst.specs.Class.{is_call}
use Rattle.rv_inst.specs.declared.effects.Effect.{Effect}
use Rattle.alone_laws.specs.Uses.{in_block}
use Rattle.alone_laws.proofs.Arrivals.{sound}
use Rattle.alone_laws.proofs.Entering.{goes_there}
use Rattle.block_model.specs.Events.{done_of}
use Rattle.block_model.specs.Events.Exec.{by_call, by_effect, by_outcome, called_here, done_exec_by}
use Rattle.block_model.specs.Events.Exec.{has_handler, next_effect, next_fault, outcome_of}
use Rattle.block_model.specs.Here.{Done, Here, view}
use Rattle.block_model.specs.History.{Event, History, file, file_among, here_in_history, running}
use Rattle.block_model.specs.Run.{IsRunHistory}
use Rattle.block_model.specs.Setting.{Setting}
use Rattle.block_model.proofs.Laws.{step_of}
use Rattle.percpu_lib.specs.Forms.{Form, HoldsBlock, placed_of}
use Rattle.percpu_lib.proofs.BlockCode.{IsFormed, KnowsTable, block_code, block_placed, registers_at}

module _ (s : Setting) (form : Form) (at : ℕ) (area : Area) (t : ℕ) (formed : IsFormed form) (e : Event)
    (before : History) (run : IsRunHistory s (e ∷ before)) (holds : HoldsBlock s (e ∷ before) form at area t)
    (exec : e.entry.kind ≡ kind.Exec) (runs : running s e.entry.hart.0 before ≡ Some t)
    (inside : in_block (placed_of form at area) (file s t before).pc ≡ true) (x : ℕ)
    (kept : form.may x ≡ false) where
  abbrev here : Here
  here = here_in_history s before e.entry.hart.0

  abbrev now : Saved
  now = file s t before

  either_files : (c : Bool) (a b : Done) → a.files ≡ [] → b.files ≡ []
      → register (file_among (cond c a b).files t now).file x ≡ register now.file x
  either_files true a b first second = ap (λ (fs : List (ℕ × Saved)). register (file_among fs t now).file x)
      first
  either_files false a b first second = ap (λ (fs : List (ℕ × Saved)). register (file_among fs t now).file x)
      second

  effect_keeps : (fault : Option ℕ) (o : Option Effect) → ((y : Effect) → o ≡ Some y → is_call y ≡ false)
      → ((y : Effect) → o ≡ Some y → register (outcome_of here t y).regs x ≡ register now.file x)
      → register (file_among (by_effect here t fault o).files t now).file x ≡ register now.file x
  effect_keeps (Some signal) o plain same = either_files (has_handler here t signal) _ _ refl refl
  effect_keeps None None plain same = refl
  effect_keeps None (Some y) plain same =
      ap (λ c. register (file_among
      (cond c (by_call here (called_here here t)) (by_outcome here t (outcome_of here t y))).files t
      now).file x) (plain y refl)
      ∙ ap (λ c. register (cond c
      (record { file = (outcome_of here t y).regs; pc = (outcome_of here t y).pc }) now).file x)
      (eqb_same t)
      ∙ same y refl

  pub registers_kept : register (file s t (e ∷ before)).file x ≡ register now.file x
  registers_kept =
      let b = placed_of form at area in
      let code = block_code s form at area formed holds.stands holds.low_table holds.low holds.low_area in
      let placed = block_placed s form at area formed holds.stands holds.low_table holds.low holds.low_area
      holds.some_table in
      let went = goes_there s b.range t e.entry.hart.0 e before run in
      let at_it = (sound s b t (KnowsTable form) placed code before run.0 holds.uses.0 went).word inside in
      let step = step_of s e before run in
      let did : e.done ≡ by_effect here t (next_fault here t) (next_effect here t) =
      step.did ∙ ap (λ k. done_of (choice_with k e.entry) here) exec ∙ ap (done_exec_by here) runs in
      ap (λ (d : Done). register (file_among d.files t now).file x) did
      ∙ effect_keeps (next_fault here t) (next_effect here t)
      (λ y is. code.no_call now y at_it is)
      (λ y is. registers_at s form at area formed holds.stands holds.low_table holds.low holds.low_area now y
      (view here) here.reserved is at_it.word at_it.pc at_it.below at_it.know x kept)
