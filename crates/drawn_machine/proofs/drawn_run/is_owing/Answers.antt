use Rattle.drawn_machine.proofs.SeenScenes.{are_listed}
use Rattle.drawn_machine.proofs.drawn_run.is_owing.Goals as goal

pub invariant_of-aim_behind : goal.invariant_of-aim_behind
invariant_of-aim_behind c = record { few = c.requires.few; listed = are_listed c.args.machine.now c.requires.run }
