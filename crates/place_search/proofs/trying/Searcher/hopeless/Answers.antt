use Rattle.std.proofs.Common.{◌≡◌, ℕ, List, Bool, length, sym, ap, ◌∙◌, subst, position, not, count_by, refl, IfSome}
use Rattle.graph_walks.specs.Walks.{AreMarks}
use Rattle.graph_walks.specs.declared.edge.Edge.{Edge}
use Rattle.place_search.specs.Logs.{log_at, logs_of}
use Rattle.place_search.specs.Searching.{setting_for, ways_of}
use Rattle.place_search.proofs.Logs.{logs_length}
use Rattle.place_search.proofs.Marked.{edges_within, ends_within, hopeless_of}
use Rattle.place_search.proofs.trying.Searcher.hopeless.Goals as goal

pub marks_of-requires-clause-edges : goal.marks_of-requires-clause-edges
marks_of-requires-clause-edges c =
    let x = c.args.self.now in
    edges_within (setting_for c.args.task.now) (ways_of c.args.task.now) (logs_of x.visited.rows.items) x.graph c.places.result c.deref.result.now c.deref.ensures.value
    (c.places.ensures ∙ sym (logs_length x.visited.rows.items)) c.requires.searching.graph

pub marks_of-requires-clause-ends : goal.marks_of-requires-clause-ends
marks_of-requires-clause-ends c =
    let x = c.args.self.now in
    ends_within (setting_for c.args.task.now) (ways_of c.args.task.now) (logs_of x.visited.rows.items) x.graph c.places.result c.deref-2.result.now c.deref-2.ensures.value
    (c.places.ensures ∙ sym (logs_length x.visited.rows.items)) c.requires.searching.graph

pub returns-clause-hopeless : goal.returns-clause-hopeless
returns-clause-hopeless c = λ searched whole.
    let x = c.args.self.now in
    let g = x.graph in
    let rows = x.visited.rows.items in
    let marks = c.in_ok-can_end.can_end.items in
    let nearest = c.in_ok-nearest.nearest.items in
    let are : AreMarks g.edges.items g.ended.items marks =
    subst (λ (es : List Edge). AreMarks es g.ended.items marks) c.deref.ensures.value
    (subst (λ (ks : List ℕ). AreMarks c.deref.result.now ks marks) c.deref-2.ensures.value c.in_ok-can_end.ensures.marks) in
    let size : length marks ≡ length (logs_of rows) = c.in_ok-can_end.ensures.size ∙ c.places.ensures ∙ sym (logs_length rows) in
    hopeless_of (setting_for c.args.task.now) (ways_of c.args.task.now) (logs_of rows) g c.requires.searching.graph whole marks are searched size
    c.walks_tell_who_can_end.ensures.can_end c.walks_tell_who_can_end.ensures.hopeless c.each_run_can_end.ensures c.count_unmarked-number.result nearest (position not marks)
    (c.count_unmarked-number.ensures ∙ ap (λ (bs : List Bool). count_by not bs) c.deref-3.ensures.value) refl
    (subst (λ (bs : List Bool). IfSome (position not bs) (λ place. nearest ≡ log_at rows place)) c.deref-4.ensures.value c.in_ok-nearest.ensures.first)
