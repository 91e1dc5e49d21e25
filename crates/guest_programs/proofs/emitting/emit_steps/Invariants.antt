use Rattle.std.proofs.Common.{◌≡◌, drop, length, take, true}
use Rattle.percpu_lib.specs.Lines.{AreEmitted}
use Rattle.guest_programs.specs.Steps.{have_room, lines_of}
use Rattle.guest_programs.specs.declared.labels.TheConstants.{LABELS}
use Rattle.guest_programs.proofs.emitting.emit_steps.Given as goal

abbrev pub invariant-loop-step : goal.invariant-loop-step
invariant-loop-step l = record {
  emitted : AreEmitted (lines_of (take l.step-index l.steps)) l.initial.asm l.asm;
  labels : length l.asm.labels ≡ LABELS;
  room : have_room l.asm.labels (length l.asm.items) (drop l.step-index l.steps) ≡ true;
}
