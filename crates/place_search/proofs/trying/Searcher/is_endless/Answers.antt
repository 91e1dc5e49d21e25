use Rattle.std.proofs.Common.{◌≡◌, ◌+◌, Bool, Err, IfOk, List, Ok, Result, ap, refl, sym, ◌∙◌, subst}
use Rattle.std.specs.declared.alloc.AllocError.{AllocError}
use Rattle.graph_walks.specs.Circles.{HasBusyCircle, HasRanks}
use Rattle.place_search.specs.Logs.{logs_of}
use Rattle.place_search.specs.Searching.{setting_for, ways_of}
use Rattle.place_search.proofs.Logs.{logs_length}
use Rattle.place_search.proofs.Marked.{edges_within, endless_of}
use Rattle.place_search.proofs.trying.Searcher.is_endless.Goals as goal

pub has_busy_circle-requires : goal.has_busy_circle-requires
has_busy_circle-requires c =
    let x = c.args.self.now in
    edges_within (setting_for c.args.task.now) (ways_of c.args.task.now) (logs_of x.visited.rows.items) x.graph c.places.result c.deref.result.now c.deref.ensures.value
    (c.places.ensures ∙ sym (logs_length x.visited.rows.items)) c.requires.searching.graph

if_ok : (r : Result Bool AllocError) (P : Bool → Type 0) → ((b : Bool) → r ≡ Ok b → P b) → IfOk r P
if_ok (Ok b) P each = each b refl
if_ok (Err e) P each = tt

pub returns : goal.returns
returns c =
    let x = c.args.self.now in
    let g = x.graph in
    let found = c.has_busy_circle.ensures in
    if_ok c.has_busy_circle.result _
    (λ endless is searched whole.
    endless_of (setting_for c.args.task.now) (ways_of c.args.task.now) (logs_of x.visited.rows.items) g c.requires.searching.graph whole searched endless
    (λ yes. subst HasBusyCircle c.deref.ensures.value (found.yes (is ∙ ap Ok yes))) (λ no. subst HasRanks c.deref.ensures.value (found.no (is ∙ ap Ok no)))
    c.walks_tell_how_much_is_executed.ensures.bounded c.walks_tell_how_much_is_executed.ensures.endless)
