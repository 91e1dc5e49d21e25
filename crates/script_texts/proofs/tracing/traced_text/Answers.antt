use Rattle.std.proofs.Common.{◌∙◌}
use Rattle.command_words.specs.Commands.{Run, Script}
use Rattle.command_words.specs.Shown.{Trace}
use Rattle.taken_files.proofs.ScriptRuns.{output_of_run, run_by_script}
use Rattle.taken_files.proofs.Causes.{passed_up, program_beside, unread_script, unplayed}
use Rattle.script_texts.proofs.tracing.traced_text.Goals as goal

pub returns-in_err-image-clause-cause : goal.returns-in_err-image-clause-cause
returns-in_err-image-clause-cause g c =
    passed_up c.from_residual.result c.in_err-image.field-0.0 _ c.from_residual.ensures.1
    (program_beside (g.S.Shelf.file c.args.shelf.now) c.args.program.now c.args.traced.script.now c.args.limits
    (g.S.Shelf.faults c.args.shelf.now) (g.S.Shelf.faults c.taken.new.shelf)
    (g.S.Shelf.last_trouble c.taken.new.shelf) c.in_err-image.field-0.0
    c.in_err-image.ensures.cause)

pub returns-in_err-lines-clause-cause : goal.returns-in_err-lines-clause-cause
returns-in_err-lines-clause-cause g c =
    passed_up c.from_residual-in_err-lines.result c.in_err-lines.field-0.0 _
    c.from_residual-in_err-lines.ensures.1
    (unread_script (g.S.Shelf.file c.args.shelf.now) (g.S.Shelf.file c.taken.new.shelf) c.args.program.now
    c.args.traced.script.now c.args.limits c.in_ok-image.image (g.S.Shelf.faults c.args.shelf.now)
    (g.S.Shelf.faults c.taken.new.shelf) (g.S.Shelf.faults c.read_file.new.shelf)
    (g.S.Shelf.last_trouble c.read_file.new.shelf) c.in_err-lines.field-0.0
    c.taken.ensures.files c.in_ok-image.ensures.taken c.taken.ensures.counts c.read_file.ensures.counts
    c.in_err-lines.ensures.cause)

pub returns-in_err-told-clause-cause : goal.returns-in_err-told-clause-cause
returns-in_err-told-clause-cause g c =
    passed_up c.from_residual-in_err-told.result c.in_err-told.field-0.0 _
    c.from_residual-in_err-told.ensures.1
    (unplayed (g.S.Shelf.file c.args.shelf.now) (g.S.Shelf.file c.taken.new.shelf) c.args.program.now
    c.args.traced.script.now c.in_ok-lines.lines.items c.deref.result.now c.args.limits c.in_ok-image.image
    (g.S.Shelf.faults c.args.shelf.now) (g.S.Shelf.faults c.read_file.new.shelf)
    (g.S.Shelf.last_trouble c.read_file.new.shelf) c.in_err-told.field-0.0
    c.taken.ensures.files c.deref.ensures.value c.in_ok-image.ensures.taken
    (record { read = c.in_ok-lines.ensures.read; fits = c.in_ok-lines.ensures.fits })
    c.in_err-told.ensures.cause)

pub returns-clause-output : goal.returns-clause-output
returns-clause-output g c =
    let files = g.S.Shelf.file c.args.shelf.now in
    let traced = c.args.traced in
    let asked : Run = record { program = c.args.program.now; source = Script traced.script.now; shown = Trace traced.span; limits = c.args.limits } in
    output_of_run files asked c.in_ok-image.image c.in_ok-told.told.machine c.whole.result
    (run_by_script files (g.S.Shelf.file c.taken.new.shelf) c.args.program.now
    traced.script.now c.in_ok-lines.lines.items c.deref.result.now c.args.limits c.in_ok-image.image
    c.in_ok-told.told.machine c.taken.ensures.files c.deref.ensures.value c.in_ok-image.ensures.taken
    (record { read = c.in_ok-lines.ensures.read; fits = c.in_ok-lines.ensures.fits })
    c.in_ok-told.ensures.whole)
    (c.whole.ensures ∙ c.in_ok-told.ensures.text)
