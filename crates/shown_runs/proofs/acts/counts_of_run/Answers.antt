use Rattle.block_model.specs.Setting.{setting_of}
use Rattle.shown_runs.proofs.Summaries.{view_made}
use Rattle.shown_runs.proofs.acts.counts_of_run.Goals as goal

pub unreachable-requires : goal.unreachable-requires
unreachable-requires c =
    view_made (setting_of c.args.image.now c.args.limits.now) c.args.machine.now c.log.result.now c.in-Err-NotARun.field-0-0
    c.in-Err-NotARun.field-0 c.requires.setting c.log.ensures c.requires.run c.in-Err-NotARun.field-0-is
    c.in-Err-NotARun.ensures.cause
