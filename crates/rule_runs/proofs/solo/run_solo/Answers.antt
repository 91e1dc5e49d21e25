use Rattle.rule_runs.proofs.SoloSteps.{so_far_booted}
use Rattle.rule_runs.proofs.solo.run_solo.Goals as goal

pub events-init : goal.events-init
events-init c = so_far_booted c.in_ok-machine.machine _ _ c.in_ok-machine.ensures
