-- The step that a free instruction comes to is the next of its thread.
use Rattle.std.proofs.Common.{sym}
use Rattle.block_model.specs.Instruction.{next_effect}
use Rattle.process.proofs.Common.{IsAlone, IsNextStep, IsPlace, Stand, byte_in, can_write_in, file_of}
use Rattle.process.proofs.FreeInstructions.{free_tells}
use Rattle.process.proofs.FreeSteps.{free_at, free_step_is}
use Rattle.process.proofs.Places.{in_list}
use Rattle.process.proofs.PlainSteps.{next_step}
use Rattle.process.proofs.parts.Parts.make_free.Goals.{In-Some}
use Rattle.process.proofs.parts.Parts.make_free.Goals as goal

next : (c : In-Some) (v : Stand) → IsPlace v c.args.self.now c.args.hart.0 → IsAlone c.args.code.now v → IsNextStep v c.args.self.now c.args.hart.0 c.in-Some.step
next c v place alone =
    let m = c.args.self.now in
    let x = c.index-state.result.now in
    let effect = next_effect c.args.code.now (file_of x) in
    let is = free_step_is (byte_in m.pages) (can_write_in m.pages) x effect c.in-Some.step c.in-Some.ensures.step in
    let free = free_tells x effect (sym c.in-Some.ensures.free) in
    next_step v m c.args.hart.0 x c.in-Some.step c.args.code.now is.asked place alone c.index-state.ensures is.is is.sizes free.runs free.waits is.plain

pub make_step-requires : goal.make_step-requires
make_step-requires c =
    let is = c.requires in
    record { stand = is.stand; place = is.place; next = next (goal.at.make_step-requires c).In-Some is.stand is.place is.alone }

pub returns-in-Some-clause-answer : goal.returns-in-Some-clause-answer
returns-in-Some-clause-answer c v place alone = c.make_step.ensures.answer v place (next (goal.at.returns-in-Some-clause-answer c).In-Some v place alone)

pub returns-in-Some-clause-after : goal.returns-in-Some-clause-after
returns-in-Some-clause-after c v place alone = c.make_step.ensures.after v place (next (goal.at.returns-in-Some-clause-after c).In-Some v place alone)

pub returns-in-Some-clause-free : goal.returns-in-Some-clause-free
returns-in-Some-clause-free c x at =
    let is = c.requires in
    free_at c.args.code.now c.args.self.now.harts.items c.args.hart.0 c.index-state.result.now x _ (in_list is.stand c.args.self.now c.args.hart.0 is.place) c.index-state.ensures at c.in-Some.ensures.free

pub returns-in-None-clause-free : goal.returns-in-None-clause-free
returns-in-None-clause-free c x at =
    let is = c.requires in
    free_at c.args.code.now c.args.self.now.harts.items c.args.hart.0 c.index-state.result.now x _ (in_list is.stand c.args.self.now c.args.hart.0 is.place) c.index-state.ensures at c.in-None.ensures.free
