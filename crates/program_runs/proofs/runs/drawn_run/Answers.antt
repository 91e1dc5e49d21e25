use Rattle.std.proofs.Common.{ap, subst}
use Rattle.block_model.specs.Setting.{setting_of}
use Rattle.drawn_runs.specs.declared.manner.Manner.{Manner}
use Rattle.drawn_runs.specs.WholeRuns.{IsWholeDrawn}
use Rattle.program_runs.proofs.Wholes.{run_by_draws}
use Rattle.program_runs.proofs.runs.drawn_run.Goals as goal

pub run_drawn-requires-clause-unscripted : goal.run_drawn-requires-clause-unscripted
run_drawn-requires-clause-unscripted g c = ap (λ (m : Manner). m.scripted) c.of-manner.ensures

pub returns-clause-run : goal.returns-clause-run
returns-clause-run g c =
    run_by_draws (g.S.Shelf.file c.args.shelf.now) c.args.program.now c.args.limits c.args.seed c.args.draws c.in_ok-image.image
    c.in_ok-drawn.drawn.machine c.in_ok-image.ensures.taken
    (subst (λ (m : Manner). IsWholeDrawn (setting_of c.in_ok-image.image c.args.limits) m c.in_ok-drawn.drawn.machine)
    c.of-manner.ensures c.in_ok-drawn.ensures.run)
