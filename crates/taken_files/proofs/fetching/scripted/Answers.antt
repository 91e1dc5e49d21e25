use Rattle.std.proofs.Common.{subst}
use Rattle.outcomes.specs.Programs.{IsScript}
use Rattle.taken_files.proofs.Causes.{passed_up, program_beside, unread_script}
use Rattle.taken_files.proofs.fetching.scripted.Goals as goal

pub returns-in_err-image-clause-cause : goal.returns-in_err-image-clause-cause
returns-in_err-image-clause-cause g c =
    passed_up c.from_residual.result c.in_err-image.field-0.0 _ c.from_residual.ensures.1
    (program_beside (g.S.Shelf.file c.args.shelf.now) c.args.program.now c.args.script.now c.args.limits
    (g.S.Shelf.faults c.args.shelf.now) (g.S.Shelf.faults c.taken.new.shelf)
    (g.S.Shelf.last_trouble c.taken.new.shelf) c.in_err-image.field-0.0
    c.in_err-image.ensures.cause)

pub returns-in_err-lines-clause-cause : goal.returns-in_err-lines-clause-cause
returns-in_err-lines-clause-cause g c =
    passed_up c.from_residual-in_err-lines.result c.in_err-lines.field-0.0 _
    c.from_residual-in_err-lines.ensures.1
    (unread_script (g.S.Shelf.file c.args.shelf.now) (g.S.Shelf.file c.taken.new.shelf) c.args.program.now
    c.args.script.now c.args.limits c.in_ok-image.image (g.S.Shelf.faults c.args.shelf.now)
    (g.S.Shelf.faults c.taken.new.shelf) (g.S.Shelf.faults c.read_file.new.shelf)
    (g.S.Shelf.last_trouble c.read_file.new.shelf) c.in_err-lines.field-0.0
    c.taken.ensures.files c.in_ok-image.ensures.taken c.taken.ensures.counts c.read_file.ensures.counts
    c.in_err-lines.ensures.cause)

pub returns-clause-read : goal.returns-clause-read
returns-clause-read g c =
    subst (λ f. IsScript f c.args.script.now c.in_ok-lines.lines.items) c.taken.ensures.files
    (record { read = c.in_ok-lines.ensures.read; fits = c.in_ok-lines.ensures.fits })
