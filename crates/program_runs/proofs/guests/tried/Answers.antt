use Rattle.std.proofs.Common.{◌∙◌}
use Rattle.block_model.specs.Setting.{setting_of}
use Rattle.program_runs.proofs.Trials.{block_run_of_rounds, output_of_trial}
use Rattle.program_runs.proofs.guests.tried.Goals as goal

pub trial_text-requires-clause-run : goal.trial_text-requires-clause-run
trial_text-requires-clause-run c =
    block_run_of_rounds (setting_of c.in_ok-image.image c.limits-limits.result) c.args.trial.now.seed c.in_ok-machine.machine
    c.in_ok-machine.ensures

pub returns-clause-output : goal.returns-clause-output
returns-clause-output c =
    output_of_trial c.args.trial.now c.limits-limits.result c.in_ok-image.image c.in_ok-machine.machine
    c.whole.result c.limits-limits.ensures c.in_ok-image.ensures.image c.in_ok-machine.ensures
    (c.whole.ensures ∙ c.in_ok-trial_text.ensures)
