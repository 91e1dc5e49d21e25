use Rattle.std.proofs.Common.{sym, subst}
use Rattle.block_model.specs.Run.{IsBlockRun}
use Rattle.place_search.specs.Searching.{setting_for}
use Rattle.place_search.proofs.Steps.{open_run}
use Rattle.place_search.proofs.trying.Searcher.return_to.Goals as goal

pub stand_after-requires-clause-run : goal.stand_after-requires-clause-run
stand_after-requires-clause-run c =
    subst (IsBlockRun (setting_for c.args.task.now)) (sym c.deref.ensures.value) (open_run c.args.task.now c.args.self.now c.args.from.now c.requires.open)
