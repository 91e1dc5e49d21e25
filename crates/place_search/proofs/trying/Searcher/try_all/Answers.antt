use Rattle.std.proofs.Common.{ℕ, All, ap, subst, arith, below_more}
use Rattle.mach_types.specs.Kernel.Scheduling.{Scheduling}
use Rattle.block_model.specs.Plain.{plain_after}
use Rattle.place_search.specs.Searching.{IsTriedWhereDue, setting_for}
use Rattle.place_search.specs.declared.stop.Stop.TheVariants.{Memory}
use Rattle.place_search.proofs.Stops.{passed_on}
use Rattle.place_search.proofs.Graphs.{more_graph, same_graph}
use Rattle.place_search.proofs.Steps.{all_stay, expanded_by, open_run}
use Rattle.place_search.proofs.Visits.{more_more, same_more}
use Rattle.place_search.proofs.trying.Searcher.try_all.Goals as goal

pub returns-in_err-choices-clause-more : goal.returns-in_err-choices-clause-more
returns-in_err-choices-clause-more c = same_more c.args.self.now.visited

pub returns-in_err-choices-clause-graph : goal.returns-in_err-choices-clause-graph
returns-in_err-choices-clause-graph c = same_graph c.args.self.now.graph

pub loop-hart-init : goal.loop-hart-init
loop-hart-init c = record {
  going = c.requires.open;
  more = same_more c.args.self.now.visited;
  grown = same_graph c.args.self.now.graph;
  tried = λ h lt. absurd (omega (arith, lt));
  ends = λ found. found;
}

pub loop-hart-preserved : goal.loop-hart-preserved
loop-hart-preserved c =
    let before = c.loop-hart.self.visited in
    let after = c.try_hart.new.self.visited in
    let g = c.loop-hart.self.graph in
    let g' = c.try_hart.new.self.graph in
    let choices = c.in_ok-choices.choices.items in
    let inv = c.loop-hart.invariant in
    let P : ℕ → Type 0 = λ h. All (IsTriedWhereDue c.args.task.now c.try_hart.new.self c.args.from.now h) choices in
    record {
      going = c.in_ok-try_hart.ensures.open;
      more = more_more c.args.self.now.visited before after inv.more c.in_ok-try_hart.ensures.more;
      grown = more_graph c.args.self.now.graph g g' inv.grown c.in_ok-try_hart.ensures.graph;
      tried = below_more P c.loop-hart.hart (λ h lt. all_stay c.args.task.now c.loop-hart.self c.try_hart.new.self c.args.from.now h choices c.in_ok-try_hart.ensures.more c.in_ok-try_hart.ensures.graph (inv.tried h lt))
          (subst (All (IsTriedWhereDue c.args.task.now c.try_hart.new.self c.args.from.now c.loop-hart.hart)) c.deref.ensures.value c.in_ok-try_hart.ensures.tried);
      ends = λ found. c.in_ok-try_hart.ensures.ends (λ is. absurd cc) (inv.ends found);
    }

pub returns-clause-expanded : goal.returns-clause-expanded
returns-clause-expanded c =
    let s = setting_for c.args.task.now in
    let log = c.args.from.now.log.items in
    let at = plain_after s log in
    let inv = c.loop-hart.invariant in
    let stands = c.requires.open.stands c.requires.there in
    expanded_by c.args.task.now c.loop-hart.self c.args.from.now c.in_ok-choices.choices.items c.args.self.now.made.parts.kernel.ready.order
    (open_run c.args.task.now c.loop-hart.self c.args.from.now inv.going) c.requires.open.goes c.requires.open.room (ap (λ (sc : Scheduling). sc.order) stands.tables.scheduling) c.in_ok-choices.ensures
    (λ choice tables tried. c.all_choices_are_listed.ensures s.limits.harts at.kernel.threads at.kernel.scheduling choice tables tried)
    (λ h lt. inv.tried h (omega (arith, lt)))

pub returns-in_err-try_hart-clause-ends : goal.returns-in_err-try_hart-clause-ends
returns-in_err-try_hart-clause-ends c = λ not found.
    c.in_err-try_hart.ensures.ends (λ is. not (passed_on c.from_residual-in_err-try_hart.result c.in_err-try_hart.field-0.0 Memory c.from_residual-in_err-try_hart.ensures.1 is))
    (c.loop-hart.invariant.ends found)

pub returns-in_err-try_hart-clause-graph : goal.returns-in_err-try_hart-clause-graph
returns-in_err-try_hart-clause-graph c =
    more_graph c.args.self.now.graph c.loop-hart.self.graph c.try_hart.new.self.graph c.loop-hart.invariant.grown c.in_err-try_hart.ensures.graph
