use Rattle.std.proofs.Common.{◌∙◌, ap, arith, length, subst}
use Rattle.mach_types.specs.Limits.{InRange}
use Rattle.block_model.specs.Deciding.{history}
use Rattle.block_model.specs.Here.{runs}
use Rattle.block_model.specs.History.{here_in_history}
use Rattle.block_model.specs.Setting.{Seen, Setting}
use Rattle.block_view.specs.Passing.{is_by_signal}
use Rattle.block_view.proofs.Seeing.{file_pc, its_hart_lies, log_is_short, made_again}
use Rattle.block_view.proofs.passing.seen_after.Goals as goal

pub overflow_cast-result : goal.overflow_cast-result
overflow_cast-result c =
    let made = c.requires.made.1 in
    let limits = subst (λ (s : Setting). InRange s.limits) (ap (λ (x : Seen). x.setting) made.longer) c.requires.limits in
    let short = log_is_short c.requires.made.0 c.args.machine.now c.args.entry made limits in
    omega (arith, ap length c.log.ensures)

pub hart-requires : goal.hart-requires
hart-requires c = its_hart_lies c.requires.made.0 c.args.machine.now c.args.entry c.requires.made.1

pub returns : goal.returns
returns c m made ahead =
    let now = c.args.machine.now in
    let here = here_in_history now.setting (history now.setting now.log) c.args.entry.hart.0 in
    made_again m now c.args.entry made (length c.log.result.now) c.args.ahead.inside
    c.args.ahead.interrupts c.is_by_signal.result c.hart.result.now.pc
    (ap length c.log.ensures) ahead.inside ahead.interrupts
    (c.is_by_signal.ensures ∙ ap is_by_signal c.end.ensures)
    ((λ i. (c.hart.ensures i).pc) ∙ file_pc here (runs here))
