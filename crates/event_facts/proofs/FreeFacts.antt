-- What is told of an instruction that sets a register and the pc alone.
use Rattle.std.proofs.Common.{◌≡◌, ℕ, List, [], ◌∷◌, ◌++◌, ◌&&◌, refl, sym, ap, ◌∙◌, subst, cond, eqb, Bool, true, false, is_none, Option, Some, None, Ok}
use Rattle.std.specs.Option.{option_map, option_map_or}
use Rattle.std.proofs.lemmas.Bool.{and_parts, and_right}
use Rattle.mach_types.specs.Events.{choice_of, kind_of}
use Rattle.mach_types.specs.Registers.{register}
use Rattle.mach_types.specs.declared.events.Choice.{Choice}
use Rattle.mach_types.specs.declared.events.Choice.TheVariants as asked
use Rattle.mach_types.specs.declared.events.Entry.{Entry}
use Rattle.mach_types.proofs.Laws.{kind_back}
use Rattle.mach_types.specs.declared.threads.Saved.{Saved}
use Rattle.rv_inst.specs.Class.{sets_register}
use Rattle.rv_inst.specs.Local.{is_register_only}
use Rattle.rv_inst.specs.Meaning.{meaning}
use Rattle.rv_inst.specs.declared.effects.Effect.TheVariants as effect
use Rattle.rv_inst.specs.declared.instruction.Inst.{Inst}
use Rattle.rv_inst.proofs.Laws.{local-rows}
use Rattle.block_model.specs.Deciding.{decide}
use Rattle.block_model.specs.Events.Exec.{next_fault, refusal_exec}
use Rattle.block_model.specs.Here.{Here, is_storable, reached, runs}
use Rattle.block_model.specs.Instruction.{fault_by, fetched, instruction_of, next_instruction}
use Rattle.block_model.specs.Run.{IsBlockRun}
use Rattle.block_model.specs.Setting.{Seen}
use Rattle.block_model.specs.Sights.{effect_here, effect_on, fault_here, fault_on, is_local_on}
use Rattle.block_model.proofs.Laws.{run_on}
use Rattle.machine_core.specs.Free.{goes_freely}
use Rattle.fact_types.specs.declared.facts.Fact.{Fact}
use Rattle.fact_types.specs.declared.facts.Fact.TheVariants.{Register}
use Rattle.event_facts.specs.Facts.{executed_by, facts_of, register_fact}
use Rattle.event_facts.specs.Freely.{IsMadeFreely}
use Rattle.event_facts.specs.Telling.{IsDecided, here_on, past_of, plain_event_of, registers_on}
use Rattle.event_facts.specs.Trace.{trace_of}
use Rattle.event_facts.specs.declared.telling.PlainEvent.TheVariants.{Instruction}
use Rattle.event_facts.proofs.LocalFacts.{local_facts, local_lines}
use Rattle.event_facts.proofs.PlainEffects.{effect_is}

-- it sets a register and does nothing else; no other instruction does
local_row : (byte : ℕ → Option ℕ) (writable : ℕ → Bool) (word : Option ℕ) (f : Saved) (o : Option Inst)
    → (option_map_or is_register_only o false && is_none (fault_by byte writable f.pc word (option_map (λ i. meaning i f.file f.pc) o)))
    ≡ option_map_or sets_register (option_map (λ i. meaning i f.file f.pc) o) false
local_row byte writable word f None = refl
local_row byte writable word f (Some i) = local-rows i f.file f.pc byte writable

local_is : (here : Here) (o : Option ℕ) → is_local_on here o ≡ option_map_or sets_register (effect_on here o) false
local_is here None = refl
local_is here (Some t) =
    let f = here.file t in
    let word = fetched here.setting.program.pages f.pc in local_row (reached here) (is_storable here) word f (instruction_of word)

pub not_free : (here : Here) → option_map_or sets_register (effect_here here) false ≡ false → goes_freely here ≡ false
not_free here other = and_right (is_none (refusal_exec here)) (is_local_on here (runs here)) (local_is here (runs here) ∙ other)

-- it makes no fault
not_faulty : (here : Here) (o : Option ℕ) → is_local_on here o ≡ true → is_none (fault_on here o) ≡ true
not_faulty here None local = refl
not_faulty here (Some t) local =
    (and_parts (option_map_or is_register_only (next_instruction here.setting.program.pages (here.file t)) false) (is_none (next_fault here t)) local).1

module _ (m m' : Seen) (h : ℕ) (entry : Entry) (rd value to : ℕ) (run : IsBlockRun m.setting m.log)
    (answer : decide m.setting (past_of m) h asked.Exec ≡ Ok entry) (hart : entry.hart.0 ≡ h) (choice : choice_of entry ≡ asked.Exec)
    (made : m' ≡ record m { log = m.log ++ entry ∷ [] }) (free : goes_freely (here_on m h) ≡ true)
    (next : effect_here (here_on m h) ≡ Some (effect.Next rd value to)) where
  no_fault : is_none (fault_here (here_on m h)) ≡ true
  no_fault =
      let here = here_on m h in
      not_faulty here (runs here) (and_parts (is_none (refusal_exec here)) (is_local_on here (runs here)) free).1

  executed : executed_by asked.Exec (here_on m h) ≡ Some (effect.Next rd value to)
  executed = effect_is (here_on m h) (effect.Next rd value to) true next (ap (λ b. b && true) no_fault)

  -- it is a plain event, which is due
  pub plain : plain_event_of (choice_of entry) (here_on m entry.hart.0) ≡ Some (Instruction (effect.Next rd value to))
  plain = (λ i. plain_event_of (choice i) (here_on m (hart i))) ∙ ap (option_map Instruction) executed

  due : IsDecided m entry
  due = (λ i. decide m.setting (past_of m) (hart i) (choice i)) ∙ answer

  run_then : IsBlockRun m'.setting m'.log
  run_then = subst (λ (z : Seen). IsBlockRun z.setting z.log) (sym made) (run_on m h asked.Exec entry run answer)

  register_told : (before after : ℕ) → before ≡ register (registers_on m h) rd → after ≡ register (registers_on m' h) rd
      → register_fact (registers_on m entry.hart.0) (registers_on m' entry.hart.0) rd ≡ cond (eqb before after) [] (Register rd after ∷ [])
  register_told before after was is =
      (λ i. register_fact (registers_on m (hart i)) (registers_on m' (hart i)) rd)
      ∙ sym (λ i. cond (eqb (was i) (is i)) [] (Register rd (is i) ∷ []))

  pub freely : (facts facts' : List Fact) (before after : ℕ) → trace_of m.setting (past_of m) entry ≡ facts_of m.setting (past_of m) entry
      → before ≡ register (registers_on m h) rd → after ≡ register (registers_on m' h) rd
      → facts' ≡ facts ++ cond (eqb before after) [] (Register rd after ∷ []) → IsMadeFreely m m' h facts facts' entry
  freely facts facts' before after law was is pushed = record {
    answer = answer;
    decided = due;
    hart = hart;
    kind = sym (kind_back entry.kind entry.tid) ∙ ap kind_of choice;
    machine = made;
    run = run_then;
    told = pushed
        ∙ ap (λ (l : List Fact). facts ++ l)
        (sym (law ∙ local_facts m m' entry run due made rd value to plain run_then ∙ register_told before after was is));
    lines = local_lines m m' entry run due made rd value to plain;
  }
