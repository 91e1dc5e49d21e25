use Rattle.std.proofs.Common.{ap, ◌∙◌}
use Rattle.block_model.specs.Stretches.{longest, worked}
use Rattle.machine_core.specs.Stretches.{stretch_of}
use Rattle.machine_core.proofs.Laws.{code_enough}
use Rattle.rule_runs.specs.Sharing.{start_in}
use Rattle.rule_runs.proofs.Stretches.{stretch_worked}
use Rattle.rule_runs.proofs.shared.SharedChronicle.work.Goals as goal

pub returns : goal.returns
returns c = λ shared hart log serves fits.
    let start = start_in shared in
    let old = stretch_of c.args.stretch.now in
    stretch_worked start.setting start.seed hart.0 log longest old (stretch_of c.work.new.stretch)
    (c.work.ensures ∙ ap (λ code. worked longest code old) serves.pages
    ∙ code_enough start.setting.program.pages longest old serves.rising) fits
