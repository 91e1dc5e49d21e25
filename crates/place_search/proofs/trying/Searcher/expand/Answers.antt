use Rattle.std.proofs.Common.{ℕ, List, Contains, sym, subst, arith}
use Rattle.std.proofs.lemmas.List.Elements.{Contains-push}
use Rattle.place_search.specs.Logs.{logs_of}
use Rattle.place_search.specs.Searching.{setting_for, ways_of}
use Rattle.place_search.specs.Visiting.{AreEndsFound}
use Rattle.place_search.specs.declared.visited.Visited.{Visited}
use Rattle.place_search.proofs.Graphs.{end_added, end_more, equal_graph, more_graph, same_items}
use Rattle.place_search.proofs.Steps.{at_limit_of, ended_at, expanded_end, open_at}
use Rattle.place_search.proofs.Visits.{deep_has, deep_more, equal_more}
use Rattle.place_search.proofs.trying.Searcher.expand.Goals as goal

pub returns-in_err-from-clause-more : goal.returns-in_err-from-clause-more
returns-in_err-from-clause-more c = equal_more c.args.self.now.visited c.reach.new.self.visited c.in_err-from.ensures.visited

pub returns-in_err-from-clause-graph : goal.returns-in_err-from-clause-graph
returns-in_err-from-clause-graph c = equal_graph c.args.self.now.graph c.reach.new.self.graph c.in_err-from.ensures.graph

pub returns-then-is_some-clause-more : goal.returns-then-is_some-clause-more
returns-then-is_some-clause-more c = equal_more c.args.self.now.visited c.reach.new.self.visited c.in_ok-from.ensures.visited

pub returns-in_err-add_end-clause-more : goal.returns-in_err-add_end-clause-more
returns-in_err-add_end-clause-more c = equal_more c.args.self.now.visited c.reach.new.self.visited c.in_ok-from.ensures.visited

pub returns-in_err-add_end-clause-graph : goal.returns-in_err-add_end-clause-graph
returns-in_err-add_end-clause-graph c =
    let g = c.reach.new.self.graph in
    more_graph c.args.self.now.graph g c.add_end.new.self (equal_graph c.args.self.now.graph g c.in_ok-from.ensures.graph)
    (same_items g c.add_end.new.self c.in_err-add_end.ensures.edges c.in_err-add_end.ensures.err)

pub returns-then-is_some-clause-searching : goal.returns-then-is_some-clause-searching
returns-then-is_some-clause-searching c =
    let x = c.reach.new.self in
    let searching = c.in_ok-from.ensures.searching in
    let logs = logs_of x.visited.rows.items in
    record {
      visited = searching.visited;
      started = searching.started;
      code = searching.code;
      standing = searching.standing;
      graph = end_added (setting_for c.args.task.now) (ways_of c.args.task.now) logs x.graph c.add_end.new.self c.args.place c.in_ok-add_end.ensures.edges c.in_ok-add_end.ensures.ok
          (ended_at c.args.task.now x c.in_ok-from.from c.args.place c.in_ok-from.ensures.reached c.in_ok-from.ensures.place c.if-is_some.ensures) searching.graph;
      few = searching.few;
      single = searching.single;
      paid = searching.paid;
    }

pub returns-then-is_some-clause-graph : goal.returns-then-is_some-clause-graph
returns-then-is_some-clause-graph c =
    let g = c.reach.new.self.graph in
    more_graph c.args.self.now.graph g c.add_end.new.self (equal_graph c.args.self.now.graph g c.in_ok-from.ensures.graph)
    (end_more g c.add_end.new.self c.args.place c.in_ok-add_end.ensures.edges c.in_ok-add_end.ensures.ok)

pub returns-then-is_some-clause-ends : goal.returns-then-is_some-clause-ends
returns-then-is_some-clause-ends c = λ not ends.
    subst (λ (v : Visited). AreEndsFound (setting_for c.args.task.now) v) (sym c.in_ok-from.ensures.visited) ends

pub returns-then-is_some-clause-expanded : goal.returns-then-is_some-clause-expanded
returns-then-is_some-clause-expanded c = λ shallow.
    let g = c.reach.new.self.graph in
    let noted = subst (λ (ks : List ℕ). Contains ks c.args.place) (sym c.in_ok-add_end.ensures.ok) (Contains-push g.ended.items c.args.place) in
    expanded_end c.args.task.now c.reach.new.self c.in_ok-from.from c.add_end.new.self c.args.place c.in_ok-from.ensures.reached c.in_ok-from.ensures.place c.if-is_some.ensures noted

pub returns-then-len-task-clause-graph : goal.returns-then-len-task-clause-graph
returns-then-len-task-clause-graph c = equal_graph c.args.self.now.graph c.reach.new.self.graph c.in_ok-from.ensures.graph

pub returns-then-len-task-clause-searching : goal.returns-then-len-task-clause-searching
returns-then-len-task-clause-searching c =
    let x = c.reach.new.self in
    let searching = c.in_ok-from.ensures.searching in
    let at = at_limit_of c.args.task.now x c.in_ok-from.from searching c.in_ok-from.ensures.reached (c.if-is_some.ensures) (omega arith) in
    record { visited = deep_has (setting_for c.args.task.now) c.args.task.now.signals x.made.start x.visited c.in_ok-from.from.log.items searching.visited at.0 at.1; started = searching.started; code = searching.code; standing = searching.standing; graph = searching.graph; few = searching.few; single = searching.single; paid = searching.paid }

pub returns-then-len-task-clause-more : goal.returns-then-len-task-clause-more
returns-then-len-task-clause-more c = deep_more c.args.self.now.visited c.reach.new.self.visited (equal_more c.args.self.now.visited c.reach.new.self.visited c.in_ok-from.ensures.visited)

pub try_all-requires-clause-open : goal.try_all-requires-clause-open
try_all-requires-clause-open c =
    open_at c.args.task.now c.reach.new.self c.in_ok-from.from c.in_ok-from.ensures.searching c.in_ok-from.ensures.reached c.if-is_some.ensures (omega arith)

pub returns-clause-ends : goal.returns-clause-ends
returns-clause-ends c =
    λ not ends. c.try_all.ensures.ends not (subst (λ (v : Visited). AreEndsFound (setting_for c.args.task.now) v) (sym c.in_ok-from.ensures.visited) ends)
