-- The step that a plain instruction comes to is the next of its thread.
use Rattle.std.specs.Option.{option_map}
use Rattle.rv_inst.proofs.Laws.{meaning-sized}
use Rattle.rv_inst.specs.Meaning.{meaning}
use Rattle.process.proofs.Common.{Inst, IsAlone, IsNextStep, IsPlace, Stand, ap, not-false, sym, ◌∙◌}
use Rattle.process.proofs.PlainSteps.{next_step}
use Rattle.process.proofs.parts.Parts.make_plain.Goals.{In-Some-plain_step}
use Rattle.process.proofs.parts.Parts.make_plain.Goals as goal

next : (c : In-Some-plain_step) (v : Stand) → IsPlace v c.args.self.now c.args.hart.0 → IsAlone c.args.code.now v → IsNextStep v c.args.self.now c.args.hart.0 c.in-Some-plain_step.step
next c v place alone =
    let x = c.index-state.result.now in
    next_step v c.args.self.now c.args.hart.0 x c.in-Some-plain_step.step c.args.code.now (meaning c.in-Some.inst.now x.file x.pc) place alone c.index-state.ensures
    (ap (option_map (λ (i : Inst). meaning i x.file x.pc)) c.in-Some.ensures) (meaning-sized c.in-Some.inst.now x.file x.pc)
    (not-false _ (sym c.is_idle.ensures ∙ c.if-is_idle.false)) (sym c.is_some.ensures ∙ c.if-is_some.false) c.in-Some-plain_step.ensures

pub make_step-requires : goal.make_step-requires
make_step-requires c =
    let is = c.requires in
    record { stand = is.stand; place = is.place; next = next (goal.at.make_step-requires c).In-Some-plain_step is.stand is.place is.alone }

pub returns-clause-answer : goal.returns-clause-answer
returns-clause-answer c v place alone = c.make_step.ensures.answer v place (next (goal.at.returns-clause-answer c).In-Some-plain_step v place alone)

pub returns-clause-after : goal.returns-clause-after
returns-clause-after c v place alone = c.make_step.ensures.after v place (next (goal.at.returns-clause-after c).In-Some-plain_step v place alone)
