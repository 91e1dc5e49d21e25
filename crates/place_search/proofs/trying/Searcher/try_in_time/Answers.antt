use Rattle.std.proofs.Common.{◌≡◌, true, false, sym}
unfoldable use Rattle.block_model.specs.Plain.{plain_after}
use Rattle.prompt_runs.specs.Owed.{owed_after}
use Rattle.place_search.specs.Logs.{logs_of}
use Rattle.place_search.specs.Preemptions.{cost_of}
use Rattle.place_search.specs.Searching.{setting_for, ways_of}
use Rattle.place_search.proofs.Graphs.{same_graph}
use Rattle.place_search.proofs.Steps.{comes_in_time, tried_late}
use Rattle.place_search.proofs.Visits.{same_more}
use Rattle.place_search.proofs.trying.Searcher.try_in_time.Goals as goal

pub returns-then-not-is_in_time-clause-more : goal.returns-then-not-is_in_time-clause-more
returns-then-not-is_in_time-clause-more c = same_more c.args.self.now.visited

pub returns-then-not-is_in_time-clause-graph : goal.returns-then-not-is_in_time-clause-graph
returns-then-not-is_in_time-clause-graph c = same_graph c.args.self.now.graph

pub returns-then-not-is_in_time-clause-tried : goal.returns-then-not-is_in_time-clause-tried
returns-then-not-is_in_time-clause-tried c = λ due.
    let task = c.args.task.now in
    let s = setting_for task in
    let from = c.args.from.now in
    let log = from.log.items in
    let opened = c.requires.open in
    let x = c.args.self.now in
    tried_late s (ways_of task) (cost_of task.preemptions) (logs_of x.visited.rows.items) x.graph from.place log c.args.hart.0 c.args.choice
    (c.dues_say_what_comes_in_time.ensures.no s (plain_after s log) opened.sees.parts (owed_after task.signals s log) from.owed c.args.hart.0 from.dues c.args.choice c.requires.task.in_range.eight_harts c.requires.hart
    (opened.owed c.args.hart.0 c.requires.hart) opened.sees.stands opened.sees.dues (sym c.if-not-is_in_time.ensures))

pub try_one-requires-clause-in_time : goal.try_one-requires-clause-in_time
try_one-requires-clause-in_time c =
    comes_in_time c.args.task.now c.args.self.now c.args.from.now c.args.hart.0 c.args.choice c.requires.task c.requires.open c.requires.hart (sym c.if-not-is_in_time.ensures) c.dues_say_what_comes_in_time.ensures.yes
