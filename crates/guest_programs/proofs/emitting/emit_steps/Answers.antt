use Rattle.std.proofs.Common.{length, ◌∙◌}
use Rattle.guest_programs.proofs.Emitted.{as_many_labels, each_good, none, one_more_step}
use Rattle.guest_programs.proofs.Rooms.{room_here, room_next}
use Rattle.guest_programs.proofs.emitting.emit_steps.Goals as goal

pub emit_step-requires-clause-labels : goal.emit_step-requires-clause-labels
emit_step-requires-clause-labels c = c.loop-step.invariant.labels

pub emit_step-requires-clause-good : goal.emit_step-requires-clause-good
emit_step-requires-clause-good c =
    each_good _ c.args.steps.now c.loop-step.step-index _ c.loop-step-test.true c.requires.good

pub emit_step-requires-clause-room : goal.emit_step-requires-clause-room
emit_step-requires-clause-room c =
    room_here c.loop-step.asm.labels (length c.loop-step.asm.items) c.args.steps.now c.loop-step.step-index _
    c.loop-step-test.true c.loop-step.invariant.room

pub loop-step-init : goal.loop-step-init
loop-step-init c = record {
  emitted = none c.args.asm.now;
  labels = c.requires.labels;
  room = c.requires.room;
}

pub loop-step-preserved : goal.loop-step-preserved
loop-step-preserved c = record {
  emitted = one_more_step c.args.steps.now c.loop-step.step-index _ _ _ _ c.loop-step-test.true
      c.loop-step.invariant.emitted c.in_ok-emit_step.ensures;
  labels = as_many_labels _ _ _ c.in_ok-emit_step.ensures
      ∙ c.loop-step.invariant.labels;
  room = room_next c.args.steps.now c.loop-step.step-index _ c.loop-step.asm c.emit_step.new.asm c.loop-step-test.true
      c.loop-step.invariant.room c.in_ok-emit_step.ensures;
}
