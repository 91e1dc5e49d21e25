use Rattle.program_runs.proofs.Wholes.{run_by_workers}
use Rattle.program_runs.proofs.runs.workers_run.Goals as goal

pub returns-clause-run : goal.returns-clause-run
returns-clause-run g c =
    run_by_workers (g.S.Shelf.file c.args.shelf.now) c.args.program.now c.args.limits c.args.seed
    c.in_ok-image.image c.in_ok-machine.machine c.in_ok-image.ensures.taken c.in_ok-machine.ensures
