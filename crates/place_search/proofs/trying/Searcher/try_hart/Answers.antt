use Rattle.std.proofs.Common.{◌≡◌, All, take, subst}
use Rattle.std.proofs.lemmas.List.{take_all}
use Rattle.std.proofs.lemmas.List.Elements.{All-more, All-nil}
use Rattle.mach_types.specs.declared.events.Choice.TheVariants as asked
use Rattle.place_search.specs.Searching.{IsTriedWhereDue}
use Rattle.place_search.specs.declared.stop.Stop.TheVariants.{Memory}
use Rattle.place_search.proofs.Stops.{passed_on}
use Rattle.place_search.proofs.Graphs.{more_graph, same_graph}
use Rattle.place_search.proofs.Steps.{all_stay}
use Rattle.place_search.proofs.Visits.{more_more, same_more}
use Rattle.place_search.proofs.trying.Searcher.try_hart.Goals as goal

pub loop-choice-init : goal.loop-choice-init
loop-choice-init c = record {
  going = c.requires.open;
  more = same_more c.args.self.now.visited;
  grown = same_graph c.args.self.now.graph;
  tried = All-nil (IsTriedWhereDue c.args.task.now c.args.self.now c.args.from.now c.args.hart.0);
  ends = λ found. found;
}

pub loop-choice-preserved : goal.loop-choice-preserved
loop-choice-preserved c =
    let before = c.loop-choice.self.visited in
    let after = c.try_in_time.new.self.visited in
    let g = c.loop-choice.self.graph in
    let g' = c.try_in_time.new.self.graph in
    let i = c.loop-choice.choice-index in
    let inv = c.loop-choice.invariant in
    record {
      going = c.in_ok-try_in_time.ensures.open;
      more = more_more c.args.self.now.visited before after inv.more c.in_ok-try_in_time.ensures.more;
      grown = more_graph c.args.self.now.graph g g' inv.grown c.in_ok-try_in_time.ensures.graph;
      tried = All-more (IsTriedWhereDue c.args.task.now c.try_in_time.new.self c.args.from.now c.args.hart.0) c.args.choices.now i asked.Exec c.loop-choice-test.true
          (all_stay c.args.task.now c.loop-choice.self c.try_in_time.new.self c.args.from.now c.args.hart.0 (take i c.args.choices.now) c.in_ok-try_in_time.ensures.more c.in_ok-try_in_time.ensures.graph inv.tried) c.in_ok-try_in_time.ensures.tried;
      ends = λ found. c.in_ok-try_in_time.ensures.ends (λ is. absurd cc) (inv.ends found);
    }

pub returns-in_err-try_in_time-clause-more : goal.returns-in_err-try_in_time-clause-more
returns-in_err-try_in_time-clause-more c =
    more_more c.args.self.now.visited c.loop-choice.self.visited c.try_in_time.new.self.visited c.loop-choice.invariant.more c.in_err-try_in_time.ensures.more

pub returns-in_err-try_in_time-clause-graph : goal.returns-in_err-try_in_time-clause-graph
returns-in_err-try_in_time-clause-graph c =
    more_graph c.args.self.now.graph c.loop-choice.self.graph c.try_in_time.new.self.graph c.loop-choice.invariant.grown c.in_err-try_in_time.ensures.graph

pub returns-clause-tried : goal.returns-clause-tried
returns-clause-tried c =
    let all : take c.loop-choice.choice-index c.args.choices.now ≡ c.args.choices.now = take_all c.loop-choice.choice-index c.args.choices.now c.loop-choice-test.false in
    subst (All (IsTriedWhereDue c.args.task.now c.loop-choice.self c.args.from.now c.args.hart.0)) all c.loop-choice.invariant.tried

pub returns-in_err-try_in_time-clause-ends : goal.returns-in_err-try_in_time-clause-ends
returns-in_err-try_in_time-clause-ends c = λ not found.
    c.in_err-try_in_time.ensures.ends (λ is. not (passed_on c.from_residual.result c.in_err-try_in_time.field-0.0 Memory c.from_residual.ensures.1 is)) (c.loop-choice.invariant.ends found)
