use Rattle.std.proofs.Common.{ap}
use Rattle.guest_programs.specs.Steps.{lines_of}
use Rattle.guest_programs.proofs.Emitted.{all_six}
use Rattle.guest_programs.proofs.Rooms.{own_room}
use Rattle.guest_programs.proofs.emitting.assembler.Goals as goal

pub returns : goal.returns
returns c = all_six _ _ _ _ _ _ _ _ _ _ _ _ _ _ _ c.in_ok-asm.ensures
    c.in_ok-emit_steps.ensures.emitted c.in_ok-emit_steps-2.ensures.emitted
    c.in_ok-emit_steps-3.ensures.emitted c.in_ok-emit_steps-4.ensures.emitted
    c.in_ok-emit_steps-5.ensures.emitted c.in_ok-emit_steps-6.ensures.emitted (ap lines_of c.own_steps.ensures.steps)

pub emit_steps-requires-6-clause-room : goal.emit_steps-requires-6-clause-room
emit_steps-requires-6-clause-room c =
    own_room c.args.name c.own_steps.result.now c.in_ok-asm.asm _ _ _ _ _ c.in_ok-asm.ensures c.own_steps.ensures.steps
    c.in_ok-emit_steps.ensures.emitted c.in_ok-emit_steps-2.ensures.emitted c.in_ok-emit_steps-3.ensures.emitted
    c.in_ok-emit_steps-4.ensures.emitted c.in_ok-emit_steps-5.ensures.emitted
