use Rattle.std.proofs.Common.{◌∙◌, ap, sym}
use Rattle.block_model.specs.Setting.{setting_of}
use Rattle.block_view.specs.Acts.{acts_of}
use Rattle.shown_runs.proofs.Summaries.{view_made}
use Rattle.shown_runs.proofs.acts.acts_of_run.Goals as goal

pub unreachable-requires : goal.unreachable-requires
unreachable-requires c =
    view_made (setting_of c.args.image.now c.args.limits.now) c.args.machine.now c.log.result.now c.in-Err-NotARun.field-0-0
    c.in-Err-NotARun.field-0 c.requires.setting c.log.ensures c.requires.run c.in-Err-NotARun.field-0-is
    c.in-Err-NotARun.ensures.cause

pub returns-in-Ok : goal.returns-in-Ok
returns-in-Ok c =
    let s = setting_of c.args.image.now c.args.limits.now in
    c.in-Ok.ensures.acts.acts ∙ ap (acts_of s) c.log.ensures
    ∙ ap (λ setting. acts_of setting c.args.machine.now.log) (sym c.requires.setting)
