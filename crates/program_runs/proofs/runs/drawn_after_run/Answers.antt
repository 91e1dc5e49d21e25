use Rattle.std.proofs.Common.{◌∙◌, ap, ap₂, arith, length}
use Rattle.command_words.specs.Commands.{Script}
use Rattle.drawn_runs.specs.Manners.{manner_behind}
use Rattle.program_runs.proofs.Wholes.{block_run_at_end, range_at_end, run_behind_script, short_at_end}
use Rattle.program_runs.proofs.runs.drawn_after_run.Goals as goal

pub overflow_cast-scripted : goal.overflow_cast-scripted
overflow_cast-scripted g c =
    let short = short_at_end (g.S.Shelf.file c.args.shelf.now) c.args.program.now (Script c.args.script.now) c.args.limits
    c.in_ok-made.made.image c.in_ok-made.made.machine c.requires c.in_ok-made.ensures.run in
    omega (arith, short, ap length c.log.ensures)

pub draw_on-requires-clause-limits : goal.draw_on-requires-clause-limits
draw_on-requires-clause-limits g c =
    range_at_end (g.S.Shelf.file c.args.shelf.now) c.args.program.now (Script c.args.script.now) c.args.limits
    c.in_ok-made.made.image c.in_ok-made.made.machine c.requires c.in_ok-made.ensures.run

pub draw_on-requires-clause-block_run : goal.draw_on-requires-clause-block_run
draw_on-requires-clause-block_run g c =
    block_run_at_end (g.S.Shelf.file c.args.shelf.now) c.args.program.now (Script c.args.script.now) c.args.limits
    c.in_ok-made.made.image c.in_ok-made.made.machine c.in_ok-made.ensures.run

pub returns-clause-run : goal.returns-clause-run
returns-clause-run g c =
    run_behind_script (g.S.Shelf.file c.args.shelf.now) c.args.program.now c.args.script.now c.args.limits c.args.seed c.args.draws
    c.in_ok-made.made.image c.in_ok-made.made.machine c.draw_on.new.machine c.behind.result c.in_ok-made.ensures.run
    (c.behind.ensures ∙ ap₂ manner_behind (ap length c.log.ensures) c.of-manner.ensures) c.draw_on.ensures.setting
    c.draw_on.ensures.begins c.draw_on.ensures.drawn
