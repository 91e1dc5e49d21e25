use Rattle.std.proofs.Common.{refl}
use Rattle.command_words.specs.Commands.{Run, Script}
use Rattle.command_words.specs.Shown.{Summary}
use Rattle.taken_files.proofs.ScriptRuns.{output_of_run, run_by_script}
use Rattle.taken_files.proofs.Causes.{passed_up, unplayed}
use Rattle.program_runs.proofs.runs.summed_text.Goals as goal

pub returns-in_err-run-clause-cause : goal.returns-in_err-run-clause-cause
returns-in_err-run-clause-cause g c =
    let files = g.S.Shelf.file c.args.shelf.now in
    passed_up c.from_residual-in_err-run.result c.in_err-run.field-0.0 _ c.from_residual-in_err-run.ensures.1
    (unplayed files files c.args.program.now c.args.script.now c.in_ok-files.files.lines.items c.deref.result.now
    c.args.limits c.in_ok-files.files.image (g.S.Shelf.faults c.args.shelf.now) (g.S.Shelf.faults c.scripted.new.shelf)
    (g.S.Shelf.last_trouble c.scripted.new.shelf) c.in_err-run.field-0.0 refl c.deref.ensures.value
    c.in_ok-files.ensures.taken c.in_ok-files.ensures.read c.in_err-run.ensures.cause)

pub returns-clause-output : goal.returns-clause-output
returns-clause-output g c =
    let files = g.S.Shelf.file c.args.shelf.now in
    let asked : Run = record { program = c.args.program.now; source = Script c.args.script.now; shown = Summary; limits = c.args.limits } in
    output_of_run files asked c.in_ok-files.files.image c.in_ok-run.run'.machine c.in_ok-summary_output.field-0
    (run_by_script files files c.args.program.now c.args.script.now c.in_ok-files.files.lines.items c.deref.result.now
    c.args.limits c.in_ok-files.files.image c.in_ok-run.run'.machine refl c.deref.ensures.value
    c.in_ok-files.ensures.taken c.in_ok-files.ensures.read c.in_ok-run.ensures.whole)
    c.in_ok-summary_output.ensures
