use Rattle.std.proofs.Common.{◌≡◌, ◌+◌, ◌∙◌, length, Some, ap}
use Rattle.settled_places.specs.Budgets.{preempt_cost}
use Rattle.place_search.specs.Logs.{logs_of}
use Rattle.place_search.specs.Searching.{setting_for, ways_of}
use Rattle.place_search.specs.SettlingSteps.{all_or_none, none_private}
use Rattle.place_search.specs.declared.visited.Visited.{Visited}
use Rattle.place_search.proofs.Findings.{complete_by, complete_within_by, search_by_of}
use Rattle.place_search.proofs.searching.search_by.Goals as goal

pub returns-in-Some-clause-search : goal.returns-in-Some-clause-search
returns-in-Some-clause-search g c =
    let s = setting_for c.args.task.now in
    let signals = c.args.task.now.signals in
    let threads = all_or_none (ways_of c.args.task.now) in
    let x = c.run.new.self in
    let v = x.visited in
    let logs = logs_of v.rows.items in
    let run = c.in-Some.ensures in
    let closed = c.close-closing.ensures in
    let same : c.say_values.new.self.visited ≡ v = c.say_values.ensures.visited in
    search_by_of c.args.task.now x c.in-Some.closing c.close-closing.result.0 c.close-closing.result.1 c.findings.result
    (record {
      outcomes = c.findings.ensures.outcomes ∙ ap (λ (w : Visited). w.outcomes) same;
      places = c.findings.ensures.places ∙ ap (λ (w : Visited). length w.rows.items + 1) same;
      deepest = c.findings.ensures.deepest ∙ ap (λ (w : Visited). w.deepest) same;
      endless = c.findings.ensures.endless;
      hopeless = c.findings.ensures.hopeless;
      closing = c.findings.ensures.closing;
    })
    run.searching closed.closing closed.nearest (λ is was. (closed.told is (run.searched (ap Some was)) (run.whole (ap Some was))).hopeless) (λ is was. (closed.told is (run.searched (ap Some was)) (run.whole (ap Some was))).endless)
    (λ is.
    let searched = run.searched (ap Some is) in
    complete_by s signals logs v.outcomes.items (run.ends (λ not. absurd cc))
    (λ n log e few block spoken over. c.settled_searches_are_complete.ensures.block_runs s signals threads none_private n logs log e searched block spoken over)
    (λ log e free spoken over. c.settled_searches_are_complete.ensures.free_runs s signals threads none_private logs log e searched free spoken over))
    (λ is. run.full (ap Some is)) (λ is. run.deep (ap Some is)) (λ not. run.ends (λ is. not cc)) (λ is. run.searched (ap Some is))
    (λ p is.
    let found = run.within p (ap Some is) in (
      found.0,
      found.1,
      complete_within_by s signals logs p v.outcomes.items (run.ends (λ not. absurd cc))
          (λ n log e few block spoken cheap over. c.settled_searches_within_budgets_are_complete.ensures.block_runs s signals threads none_private preempt_cost p n logs log e found.2 block spoken cheap over)
          (λ log e free spoken cheap over. c.settled_searches_within_budgets_are_complete.ensures.free_runs s signals threads none_private preempt_cost p logs log e found.2 free spoken cheap over),
    ))
