use Rattle.std.proofs.Common.{refl}
use Rattle.taken_files.proofs.ScriptRuns.{run_by_script}
use Rattle.taken_files.proofs.Causes.{passed_up, unplayed}
use Rattle.program_runs.proofs.runs.script_run.Goals as goal

pub returns-in_err-machine-clause-cause : goal.returns-in_err-machine-clause-cause
returns-in_err-machine-clause-cause g c =
    let files = g.S.Shelf.file c.args.shelf.now in
    passed_up c.from_residual-in_err-machine.result c.in_err-machine.field-0.0 _ c.from_residual-in_err-machine.ensures.1
    (unplayed files files c.args.program.now c.args.script.now c.in_ok-files.files.lines.items c.deref.result.now
    c.args.limits c.in_ok-files.files.image (g.S.Shelf.faults c.args.shelf.now) (g.S.Shelf.faults c.scripted.new.shelf)
    (g.S.Shelf.last_trouble c.scripted.new.shelf) c.in_err-machine.field-0.0 refl c.deref.ensures.value
    c.in_ok-files.ensures.taken c.in_ok-files.ensures.read c.in_err-machine.ensures.cause)

pub returns-clause-run : goal.returns-clause-run
returns-clause-run g c =
    let files = g.S.Shelf.file c.args.shelf.now in
    run_by_script files files c.args.program.now c.args.script.now c.in_ok-files.files.lines.items c.deref.result.now
    c.args.limits c.in_ok-files.files.image c.in_ok-machine.machine refl c.deref.ensures.value
    c.in_ok-files.ensures.taken c.in_ok-files.ensures.read c.in_ok-machine.ensures.whole
