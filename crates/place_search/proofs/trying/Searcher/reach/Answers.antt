use Rattle.std.proofs.Common.{List, true, false, refl, sym, ap, ◌∙◌, subst}
use Rattle.block_model.specs.Run.{IsBlockRun}
use Rattle.place_search.specs.Logs.{log_at}
use Rattle.place_search.specs.Searching.{setting_for}
use Rattle.place_search.specs.declared.row.Row.{Row}
use Rattle.place_search.proofs.Steps.{run_at, searching_on}
use Rattle.place_search.proofs.trying.Searcher.reach.Goals as goal

pub stand_after-requires-clause-run : goal.stand_after-requires-clause-run
stand_after-requires-clause-run c =
    let s = setting_for c.args.task.now in
    let x = c.args.self.now in
    subst (IsBlockRun s) (sym c.deref-2.ensures.value)
    (run_at s c.args.task.now.signals x.made.start x.visited c.args.place c.in_ok-log.log.items c.requires.searching.visited c.requires.place
    (c.in_ok-log.ensures ∙ ap (λ (rows : List Row). log_at rows c.args.place) c.deref.ensures.value))

pub returns-in_err-stand_after-clause-searching : goal.returns-in_err-stand_after-clause-searching
returns-in_err-stand_after-clause-searching c =
    let x = c.args.self.now in
    let kept = c.in_err-stand_after.ensures in
    searching_on c.args.task.now x (record { visited = x.visited; graph = x.graph; made = c.stand_after.new.self; moved = true; checkpoints = c.stand_after.new.checkpoints }) c.requires.searching refl refl kept.start kept.code kept.standing

pub returns-in_err-sights-clause-searching : goal.returns-in_err-sights-clause-searching
returns-in_err-sights-clause-searching c =
    let x = c.args.self.now in
    let kept = c.in_ok-stand_after.ensures in
    searching_on c.args.task.now x (record { visited = x.visited; graph = x.graph; made = c.stand_after.new.self; moved = false; checkpoints = c.stand_after.new.checkpoints }) c.requires.searching refl refl kept.start kept.code kept.standing

pub returns-clause-searching : goal.returns-clause-searching
returns-clause-searching c =
    let x = c.args.self.now in
    let kept = c.in_ok-stand_after.ensures in
    searching_on c.args.task.now x (record { visited = x.visited; graph = x.graph; made = c.stand_after.new.self; moved = false; checkpoints = c.stand_after.new.checkpoints }) c.requires.searching refl refl kept.start kept.code kept.standing
