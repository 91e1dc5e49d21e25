use Rattle.std.proofs.Common.{ℕ, ◌+◌, ◌<◌, ◌∷◌, [], ◌++◌, ◌∙◌, List, ap, arith, cond, eqb, length, refl, subst, sym}
use Rattle.mach_types.specs.Registers.{register}
use Rattle.mach_types.specs.declared.events.Entry.{Entry}
use Rattle.block_model.specs.Setting.{Seen}
use Rattle.fact_types.specs.declared.facts.Fact.{Fact}
use Rattle.fact_types.specs.declared.facts.Fact.TheVariants.{Register}
use Rattle.event_facts.specs.Facts.{register_fact}
use Rattle.event_facts.specs.Telling.{past_of, registers_on}
use Rattle.event_facts.proofs.Due.{due, few_lines, line_is}
use Rattle.event_facts.proofs.LinesOfBytes.{is_latest}
use Rattle.event_facts.proofs.Lists.{two_pieces}
use Rattle.event_facts.proofs.ToldFacts.{all_facts, lines_after, set_alone}
use Rattle.event_facts.proofs.telling.tell.Goals as goal

pub overflow_cast-line : goal.overflow_cast-line
overflow_cast-line c =
    let few = few_lines c.args.machine.now c.args.entry c.requires.run c.requires.decided c.requires.limits in
    omega (arith, ap length c.log.ensures)

pub overflow_add-line : goal.overflow_add-line
overflow_add-line c =
    let few = few_lines c.args.machine.now c.args.entry c.requires.run c.requires.decided c.requires.limits in
    omega (arith, ap length c.log.ensures)

pub deed_of-deed-requires-clause-hart : goal.deed_of-deed-requires-clause-hart
deed_of-deed-requires-clause-hart c = (due c.args.machine.now c.args.entry c.requires.run c.requires.decided).lt

pub push_memory-requires-clause-hart : goal.push_memory-requires-clause-hart
push_memory-requires-clause-hart c = (due c.args.machine.now c.args.entry c.requires.run c.requires.decided).lt

pub push_memory-requires-clause-line : goal.push_memory-requires-clause-line
push_memory-requires-clause-line c = ap (λ (l : List Entry). length l + 1) c.log.ensures ∙ line_is c.args.machine.now

pub tell_register-requires-clause-hart : goal.tell_register-requires-clause-hart
tell_register-requires-clause-hart c = (due c.args.machine.now c.args.entry c.requires.run c.requires.decided).lt

pub note-requires-clause-hart : goal.note-requires-clause-hart
note-requires-clause-hart c =
    subst (λ n. c.args.entry.hart.0 < n) (sym c.requires.lines.harts) (due c.args.machine.now c.args.entry c.requires.run c.requires.decided).lt

pub note-requires-clause-lines : goal.note-requires-clause-lines
note-requires-clause-lines c =
    let m = c.args.machine.now in
    let line = ap (λ (l : List Entry). length l + 1) c.log.ensures ∙ line_is m in
    is_latest m.setting m.setting.limits.harts (past_of m) c.args.lines.now _ c.requires.lines line

pub returns-clause-facts : goal.returns-clause-facts
returns-clause-facts c =
    let m = c.args.machine.now in
    let m' = c.tell_register.new.machine in
    let h = c.args.entry.hart.0 in
    let told = all_facts m m' c.args.entry c.requires.run c.requires.decided c.tell_register.ensures.machine c.args.event.now c.deed_of-deed.result
    (registers_on m h) c.requires.event c.deed_of-deed.ensures.deed refl in
    let alone = set_alone m m' c.args.entry c.requires.run c.requires.decided c.tell_register.ensures.machine c.args.event.now c.requires.event c.tell_register.ensures.run in
    two_pieces _ _ _ _ _ c.in_ok-push_memory.ensures
    (c.in_ok-tell_register.ensures.facts
    ∙ ap (λ (l : List Fact). c.push_memory.new.facts.items ++ l) (ap (register_fact (registers_on m h) (registers_on m' h)) c.register_of.ensures ∙ sym alone))
    ∙ ap (λ (l : List Fact). c.args.facts.now.items ++ l) (sym told)

pub returns-clause-lines : goal.returns-clause-lines
returns-clause-lines c =
    let line = ap (λ (l : List Entry). length l + 1) c.log.ensures ∙ line_is c.args.machine.now in
    lines_after c.args.machine.now c.tell_register.new.machine c.args.entry c.requires.run c.requires.decided c.tell_register.ensures.machine c.deed_of-deed.result _ c.args.lines.now
    c.note.new.self c.deed_of-deed.ensures.deed line c.requires.lines c.in_ok-note.ensures.harts c.in_ok-note.ensures.own c.in_ok-note.ensures.others
    c.in_ok-note.ensures.written
