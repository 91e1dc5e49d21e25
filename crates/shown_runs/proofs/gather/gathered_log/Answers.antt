use Rattle.std.proofs.Common.{◌<◌, ◌∙◌, All, List, ap, subst, sym}
use Rattle.mach_types.specs.declared.events.Entry.{Entry}
use Rattle.block_model.specs.Setting.{Setting, setting_of}
use Rattle.log_gather.specs.Gathered.{gathered}
use Rattle.shown_runs.proofs.ShownRuns.{gathered_digits}
use Rattle.shown_runs.proofs.Summaries.{view_made}
use Rattle.shown_runs.proofs.gather.gathered_log.Goals as goal

pub unreachable-requires : goal.unreachable-requires
unreachable-requires c =
    view_made (setting_of c.args.image.now c.args.limits.now) c.args.machine.now c.log.result.now c.in-Err-NotARun.field-0-0
    c.in-Err-NotARun.field-0 c.requires.setting c.log.ensures c.requires.run c.in-Err-NotARun.field-0-is
    c.in-Err-NotARun.ensures.cause

pub returns-in-Ok-clause-gathered : goal.returns-in-Ok-clause-gathered
returns-in-Ok-clause-gathered c =
    let s = setting_of c.args.image.now c.args.limits.now in
    c.in-Ok.ensures.entries.entries_are ∙ ap (gathered s) c.log.ensures
    ∙ ap (λ (setting : Setting). gathered setting c.args.machine.now.log) (sym c.requires.setting)

pub returns-in-Ok-clause-harts : goal.returns-in-Ok-clause-harts
returns-in-Ok-clause-harts c =
    let s = setting_of c.args.image.now c.args.limits.now in
    subst (λ (log : List Entry). All (λ (e : Entry). e.hart.0 < 8) log) (sym c.in-Ok.ensures.entries.entries_are)
    (gathered_digits s c.log.result.now c.requires.limits.eight_harts c.in-Ok.ensures.entries.block_run)
