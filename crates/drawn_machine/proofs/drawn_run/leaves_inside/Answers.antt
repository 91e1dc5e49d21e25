use Rattle.drawn_machine.proofs.SeenScenes.{are_listed}
use Rattle.drawn_machine.proofs.drawn_run.leaves_inside.Goals as goal

pub invariant_of-is_inside : goal.invariant_of-is_inside
invariant_of-is_inside c = record { few = c.requires.few; listed = are_listed c.args.machine.now c.requires.run }
