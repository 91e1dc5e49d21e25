-- What is told of an instruction that sets a register and does nothing else: that register alone. What is kept of lines stays.
use Rattle.std.proofs.Common.{◌≡◌, ℕ, List, [], ◌∷◌, ◌++◌, refl, sym, ap, ◌∙◌, append-nil, Some, None, false}
use Rattle.mach_types.specs.Events.{choice_of}
use Rattle.mach_types.specs.declared.events.Entry.{Entry}
use Rattle.rv_inst.specs.declared.effects.Effect.TheVariants as effect
use Rattle.block_model.specs.Events.{done_of}
use Rattle.block_model.specs.Run.{IsBlockRun}
use Rattle.block_model.specs.Setting.{Seen}
use Rattle.fact_types.specs.declared.facts.Fact.{Fact}
use Rattle.event_facts.specs.Deeds.{IsDeedOf}
use Rattle.event_facts.specs.Facts.{facts_of, register_fact}
use Rattle.event_facts.specs.Lines.{next_line}
use Rattle.event_facts.specs.Telling.{IsDecided, changed_facts, here_on, past_of, plain_event_of, registers_on}
use Rattle.event_facts.specs.Tied.{AreLinesOf, kept_on}
use Rattle.event_facts.specs.declared.deeds.Deed.{Deed}
use Rattle.event_facts.specs.declared.lines.Lines.{Lines}
use Rattle.event_facts.specs.declared.telling.PlainEvent.{PlainEvent}
use Rattle.event_facts.specs.declared.telling.PlainEvent.TheVariants.{Instruction}
use Rattle.event_facts.proofs.Entered.{none_lost}
use Rattle.event_facts.proofs.EventDeeds.{instruction_deed}
use Rattle.event_facts.proofs.ToldFacts.{all_facts, lines_after, set_alone}

-- it does nothing to stores and to memory
abbrev no_deed : Deed
no_deed = record { executed = None; drained = false; entered = None }

module _ (m m' : Seen) (entry : Entry) (run : IsBlockRun m.setting m.log) (decided : IsDecided m entry) (made : m' ≡ record m { log = m.log ++ entry ∷ [] })
    (rd value to : ℕ) (is : plain_event_of (choice_of entry) (here_on m entry.hart.0) ≡ Some (Instruction (effect.Next rd value to))) where
  abbrev event : PlainEvent
  event = Instruction (effect.Next rd value to)

  nothing_else : IsDeedOf (done_of (choice_of entry) (here_on m entry.hart.0)) no_deed
  nothing_else =
      instruction_deed (choice_of entry) (here_on m entry.hart.0) (effect.Next rd value to) 0 (here_on m entry.hart.0).reserved no_deed is refl tt refl refl refl

  pub local_facts : IsBlockRun m'.setting m'.log
      → facts_of m.setting (past_of m) entry ≡ register_fact (registers_on m entry.hart.0) (registers_on m' entry.hart.0) rd
  local_facts run' =
      let h = entry.hart.0 in
      all_facts m m' entry run decided made event no_deed (registers_on m h) is nothing_else refl
      ∙ ap (λ (l : List Fact). l ++ changed_facts entry event (registers_on m h) m') (none_lost h (past_of m) None m.setting.limits.harts refl)
      ∙ set_alone m m' entry run decided made event is run'

  pub local_lines : (x : Lines) → AreLinesOf m.setting.limits.harts (past_of m) x → AreLinesOf m'.setting.limits.harts (past_of m') x
  local_lines x tied =
      lines_after m m' entry run decided made no_deed (next_line (past_of m)) x x nothing_else refl tied refl
      (sym (append-nil (kept_on x entry.hart.0))) (λ k other. refl) (λ a. refl)
