use Rattle.std.proofs.lemmas.Result.{IfErr-weaker}
use Rattle.taken_files.proofs.Causes.{untaken_program}
use Rattle.taken_files.proofs.fetching.taken.Goals as goal

pub returns-clause-cause : goal.returns-clause-cause
returns-clause-cause g c =
    IfErr-weaker c.taken_as.result _ _ (untaken_program (g.S.Shelf.file c.args.shelf.now) c.args.name.now c.args.limits.now
    (g.S.Shelf.faults c.args.shelf.now) (g.S.Shelf.faults c.taken_as.new.shelf)
    (g.S.Shelf.last_trouble c.taken_as.new.shelf))
    c.taken_as.ensures.cause
