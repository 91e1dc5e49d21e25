use Rattle.std.proofs.Common.{◌≡◌, ◌≤◌, ◌+◌, ℕ, Option, None, Some, is_some, false, ◌∙◌, ◌++◌, ◌∷◌, [], List, Contains, true, refl, sym, subst, arith}
use Rattle.mach_types.specs.declared.events.Choice.{Choice}
use Rattle.mach_types.specs.declared.events.Entry.{Entry}
unfoldable use Rattle.block_model.specs.Plain.{plain_after}
use Rattle.block_model.specs.Run.{IsBlockRun}
use Rattle.prompt_runs.specs.Owed.{owed_after}
use Rattle.std.proofs.lemmas.List.Elements.{Contains-push}
use Rattle.place_search.specs.Logs.{AreSingle, logs_of}
use Rattle.place_search.specs.Searching.{setting_for, ways_of}
use Rattle.place_search.specs.SettlingSteps.{HasMore, IsStandingAt}
use Rattle.place_search.specs.Sights.{is_left}
use Rattle.place_search.specs.Visiting.{AreEndsFound}
use Rattle.graph_walks.specs.declared.edge.Edge.{Edge}
use Rattle.place_search.specs.declared.stop.Stop.TheVariants.{Memory}
use Rattle.place_search.specs.declared.visited.Visited.{Visited}
use Rattle.place_search.proofs.Edges.{calm_by}
use Rattle.place_search.proofs.trying.Searcher.try_one.Goals.{else-task-via-then-task+else-not-is_left, else-task-via-else-task}
use Rattle.place_search.proofs.Graphs.{edge_added, edge_more, equal_graph, graph_stays, more_graph, same_graph, same_items, same_true}
use Rattle.place_search.proofs.HeldSignals.{all_held}
use Rattle.place_search.proofs.Logs.{logs_length}
use Rattle.settled_places.specs.Budgets.{spent}
use Rattle.settled_places.specs.Edges.{log_by_number}
use Rattle.place_search.specs.Preemptions.{budget_of, cost_of, paid_with}
use Rattle.place_search.proofs.Preemptions.{kept_is, not_due}
use Rattle.place_search.proofs.Steps.{IsBusyBy, cost_after, entry_in_time, event_stands, few_entries, going, kept_cost, made_ok, may_visit, one_entry, open_run, open_spoken, opened_after, tried_ok, tried_refused}
use Rattle.place_search.proofs.Stops.{number_passed_on}
use Rattle.place_search.proofs.Visits.{equal_more, left_out_more, same_more}
use Rattle.place_search.proofs.trying.Searcher.try_one.Goals as goal

pub returns-in_err-return_to-clause-more : goal.returns-in_err-return_to-clause-more
returns-in_err-return_to-clause-more c = equal_more c.args.self.now.visited c.return_to.new.self.visited c.in_err-return_to.ensures.visited

pub traps-trapped-requires : goal.traps-trapped-requires
traps-trapped-requires c = let all = c.in_ok-return_to.ensures.stands.all_harts in omega (arith, c.requires.hart)

pub try_choice-requires : goal.try_choice-requires
try_choice-requires c =
    record {
      setting = setting_for c.args.task.now;
      log = c.args.from.now.log.items;
      going = going c.args.task.now c.return_to.new.self c.args.from.now c.args.hart.0 c.requires.task c.in_ok-return_to.ensures.open c.in_ok-return_to.ensures.stands c.requires.hart;
    }

pub returns-then-not-is_left-clause-more : goal.returns-then-not-is_left-clause-more
returns-then-not-is_left-clause-more c = equal_more c.args.self.now.visited c.return_to.new.self.visited c.in_ok-return_to.ensures.visited

pub returns-then-not-is_left-clause-ends : goal.returns-then-not-is_left-clause-ends
returns-then-not-is_left-clause-ends c = λ not ends.
    subst (λ (v : Visited). AreEndsFound (setting_for c.args.task.now) v) (sym c.in_ok-return_to.ensures.visited) ends

pub settle-requires-clause-there : goal.settle-requires-clause-there
settle-requires-clause-there c =
    let task = c.args.task.now in
    let from = c.args.from.now in
    let s = setting_for task in
    let log = from.log.items in
    let x = c.return_to.new.self in
    let opened = c.in_ok-return_to.ensures.open in
    let longer = c.in-Ok.ensures.ok s log (going task x from c.args.hart.0 c.requires.task opened c.in_ok-return_to.ensures.stands c.requires.hart) in
    let in_time = c.requires.in_time in
    subst (λ (l : List Entry). IsStandingAt s task.signals l (c.in-Ok.entry ∷ []) c.owed_after-owed.result c.try_choice.new.parts) (sym c.deref.ensures.value)
    (event_stands s task.signals log c.args.hart.0 c.args.choice c.in-Ok.entry c.try_choice.new.parts from.owed c.owed_after-owed.result c.traps-trapped.result c.requires.task.in_range.eight_harts c.requires.hart
    (open_spoken task x from opened) opened.owed in_time longer (c.traps-trapped.ensures s _ c.in_ok-return_to.ensures.stands c.requires.hart opened.searching.code) c.owed_after-owed.ensures c.sets_say_what_is_owed.ensures)

pub owed_after-owed-requires : goal.owed_after-owed-requires
owed_after-owed-requires c =
    let s = setting_for c.args.task.now in
    let x = c.return_to.new.self in
    let from = c.args.from.now in
    let longer = c.in-Ok.ensures.ok s from.log.items (going c.args.task.now x from c.args.hart.0 c.requires.task c.in_ok-return_to.ensures.open c.in_ok-return_to.ensures.stands c.requires.hart) in
    all_held s (from.log.items ++ c.in-Ok.entry ∷ []) c.try_choice.new.parts longer.run longer.stands

pub returns-in_err-entries-in-Ok-clause-more : goal.returns-in_err-entries-in-Ok-clause-more
returns-in_err-entries-in-Ok-clause-more c = equal_more c.args.self.now.visited c.return_to.new.self.visited c.in_ok-return_to.ensures.visited

pub visit-requires-clause-log : goal.visit-requires-clause-log
visit-requires-clause-log c =
    let s = setting_for c.args.task.now in
    few_entries s c.args.from.now.log.items c.in_ok-entries-in-Ok.entries.items c.requires.task.in_range
    (subst (λ (l : List Entry). IsBlockRun s (l ++ c.in_ok-entries-in-Ok.entries.items)) c.deref.ensures.value c.in_ok-entries-in-Ok.ensures.there.run)

pub returns-in_err-return_to-clause-graph : goal.returns-in_err-return_to-clause-graph
returns-in_err-return_to-clause-graph c = equal_graph c.args.self.now.graph c.return_to.new.self.graph c.in_err-return_to.ensures.graph

pub returns-then-not-is_left-clause-graph : goal.returns-then-not-is_left-clause-graph
returns-then-not-is_left-clause-graph c = equal_graph c.args.self.now.graph c.return_to.new.self.graph c.in_ok-return_to.ensures.graph

pub returns-in_err-entries-in-Ok-clause-graph : goal.returns-in_err-entries-in-Ok-clause-graph
returns-in_err-entries-in-Ok-clause-graph c = equal_graph c.args.self.now.graph c.return_to.new.self.graph c.in_ok-return_to.ensures.graph

pub returns-in_err-to-in-Ok-clause-open : goal.returns-in_err-to-in-Ok-clause-open
returns-in_err-to-in-Ok-clause-open c =
    let s = setting_for c.args.task.now in
    let x = c.return_to.new.self in
    let opened = c.in_ok-return_to.ensures.open in
    let made = c.settle.new.self in
    let entries = c.in_ok-entries-in-Ok.entries.items in
    let there = subst (λ (l : List Entry). IsStandingAt s c.args.task.now.signals l entries c.owed_after-owed.result made.parts) c.deref.ensures.value c.in_ok-entries-in-Ok.ensures.there in
    let may = may_visit c.args.task.now x c.args.from.now entries c.owed_after-owed.result made c.requires.task opened there c.in_ok-entries-in-Ok.ensures.start in
    let v = c.visit.new.self in
    let after = c.in_err-to-in-Ok.ensures in
    let settle = c.args.task.now.settle in
    let ways = ways_of c.args.task.now in
    let more = subst (λ (l : List Entry). HasMore s ways l (c.in-Ok.entry ∷ []) entries) c.deref.ensures.value c.in_ok-entries-in-Ok.ensures.more in
    let single : settle ≡ false → AreSingle v.rows.items = λ off. after.single (one_entry s ways c.args.from.now.log.items entries c.in-Ok.entry off more) (opened.searching.single off) in
    let longer = c.in-Ok.ensures.ok s c.args.from.now.log.items (going c.args.task.now x c.args.from.now c.args.hart.0 c.requires.task opened c.in_ok-return_to.ensures.stands c.requires.hart) in
    let n = c.in-Some.preemptions in
    let paid_is : paid_with c.args.task.now.preemptions c.args.from.now.preemptions c.args.choice ≡ Some n = cc (c.paid_with-paid.ensures, c.in-Some.is) in
    let cost = cost_after c.args.task.now x c.args.from.now entries n c.args.choice c.in-Ok.entry opened longer.choice more paid_is in
    let paid = after.paid s c.args.task.now.signals (cost_of c.args.task.now.preemptions) (budget_of c.args.task.now.preemptions) may cost.0 cost.1 opened.searching.paid in
    opened_after c.args.task.now x c.args.from.now made v x.graph opened (after.kept s c.args.task.now.signals may) may.started c.in_ok-entries-in-Ok.ensures.code after.few after.more
    (graph_stays s (ways_of c.args.task.now) x.visited v x.graph x.graph after.more refl opened.searching.graph) single paid

pub returns-in_err-to-in-Ok-clause-graph : goal.returns-in_err-to-in-Ok-clause-graph
returns-in_err-to-in-Ok-clause-graph c = equal_graph c.args.self.now.graph c.return_to.new.self.graph c.in_ok-return_to.ensures.graph

pub returns-in_err-to-in-Ok-clause-ends : goal.returns-in_err-to-in-Ok-clause-ends
returns-in_err-to-in-Ok-clause-ends c =
    let s = setting_for c.args.task.now in
    let x = c.return_to.new.self in
    let made = c.settle.new.self in
    let entries = c.in_ok-entries-in-Ok.entries.items in
    let there = subst (λ (l : List Entry). IsStandingAt s c.args.task.now.signals l entries c.owed_after-owed.result made.parts) c.deref.ensures.value c.in_ok-entries-in-Ok.ensures.there in
    let may = may_visit c.args.task.now x c.args.from.now entries c.owed_after-owed.result made c.requires.task c.in_ok-return_to.ensures.open there c.in_ok-entries-in-Ok.ensures.start in
    λ not ends.
    c.in_err-to-in-Ok.ensures.ends (λ is. not (number_passed_on c.from_residual-in_err-to-in-Ok.result c.in_err-to-in-Ok.field-0.0 Memory c.from_residual-in_err-to-in-Ok.ensures.1 is)) s c.args.task.now.signals may
    (subst (λ (v : Visited). AreEndsFound s v) (sym c.in_ok-return_to.ensures.visited) ends)

pub returns-in_err-add_edge-in-Ok-clause-open : goal.returns-in_err-add_edge-in-Ok-clause-open
returns-in_err-add_edge-in-Ok-clause-open c =
    let s = setting_for c.args.task.now in
    let settle = c.args.task.now.settle in
    let ways = ways_of c.args.task.now in
    let x = c.return_to.new.self in
    let opened = c.in_ok-return_to.ensures.open in
    let made = c.settle.new.self in
    let entries = c.in_ok-entries-in-Ok.entries.items in
    let there = subst (λ (l : List Entry). IsStandingAt s c.args.task.now.signals l entries c.owed_after-owed.result made.parts) c.deref.ensures.value c.in_ok-entries-in-Ok.ensures.there in
    let may = may_visit c.args.task.now x c.args.from.now entries c.owed_after-owed.result made c.requires.task opened there c.in_ok-entries-in-Ok.ensures.start in
    let v = c.visit.new.self in
    let after = c.in_ok-to-in-Ok.ensures in
    let more = subst (λ (l : List Entry). HasMore s ways l (c.in-Ok.entry ∷ []) entries) c.deref.ensures.value c.in_ok-entries-in-Ok.ensures.more in
    let single : settle ≡ false → AreSingle v.rows.items = λ off. after.single (one_entry s ways c.args.from.now.log.items entries c.in-Ok.entry off more) (opened.searching.single off) in
    let longer = c.in-Ok.ensures.ok s c.args.from.now.log.items (going c.args.task.now x c.args.from.now c.args.hart.0 c.requires.task opened c.in_ok-return_to.ensures.stands c.requires.hart) in
    let n = c.in-Some.preemptions in
    let paid_is : paid_with c.args.task.now.preemptions c.args.from.now.preemptions c.args.choice ≡ Some n = cc (c.paid_with-paid.ensures, c.in-Some.is) in
    let cost = cost_after c.args.task.now x c.args.from.now entries n c.args.choice c.in-Ok.entry opened longer.choice more paid_is in
    let paid = after.paid s c.args.task.now.signals (cost_of c.args.task.now.preemptions) (budget_of c.args.task.now.preemptions) may cost.0 cost.1 opened.searching.paid in
    opened_after c.args.task.now x c.args.from.now made v c.add_edge.new.self opened (after.kept s c.args.task.now.signals may) may.started c.in_ok-entries-in-Ok.ensures.code after.few after.more
    (same_true s ways (logs_of v.rows.items) x.graph c.add_edge.new.self c.in_err-add_edge-in-Ok.ensures.err c.in_err-add_edge-in-Ok.ensures.ended
    (graph_stays s ways x.visited v x.graph x.graph after.more refl opened.searching.graph)) single paid

pub returns-in_err-add_edge-in-Ok-clause-graph : goal.returns-in_err-add_edge-in-Ok-clause-graph
returns-in_err-add_edge-in-Ok-clause-graph c =
    let g = c.return_to.new.self.graph in
    more_graph c.args.self.now.graph g c.add_edge.new.self (equal_graph c.args.self.now.graph g c.in_ok-return_to.ensures.graph)
    (same_items g c.add_edge.new.self c.in_err-add_edge-in-Ok.ensures.err c.in_err-add_edge-in-Ok.ensures.ended)

pub returns-in_ok-add_edge-in-Ok-clause-open : goal.returns-in_ok-add_edge-in-Ok-clause-open
returns-in_ok-add_edge-in-Ok-clause-open c =
    let s = setting_for c.args.task.now in
    let settle = c.args.task.now.settle in
    let ways = ways_of c.args.task.now in
    let x = c.return_to.new.self in
    let from = c.args.from.now in
    let log = from.log.items in
    let opened = c.in_ok-return_to.ensures.open in
    let made = c.settle.new.self in
    let entries = c.in_ok-entries-in-Ok.entries.items in
    let there = subst (λ (l : List Entry). IsStandingAt s c.args.task.now.signals l entries c.owed_after-owed.result made.parts) c.deref.ensures.value c.in_ok-entries-in-Ok.ensures.there in
    let more = subst (λ (l : List Entry). HasMore s ways l (c.in-Ok.entry ∷ []) entries) c.deref.ensures.value c.in_ok-entries-in-Ok.ensures.more in
    let may = may_visit c.args.task.now x from entries c.owed_after-owed.result made c.requires.task opened there c.in_ok-entries-in-Ok.ensures.start in
    let at = going c.args.task.now x from c.args.hart.0 c.requires.task opened c.in_ok-return_to.ensures.stands c.requires.hart in
    let longer = c.in-Ok.ensures.ok s log at in
    let v = c.visit.new.self in
    let logs = logs_of v.rows.items in
    let size = logs_length v.rows.items in
    let after = c.in_ok-to-in-Ok.ensures in
    let edge : Edge = record { from = from.place; to = c.in_ok-to-in-Ok.to; busy = c.is_busy-busy.result } in
    let stays = graph_stays s ways x.visited v x.graph x.graph after.more refl opened.searching.graph in
    let single : settle ≡ false → AreSingle v.rows.items = λ off. after.single (one_entry s ways log entries c.in-Ok.entry off more) (opened.searching.single off) in
    let n = c.in-Some.preemptions in
    let paid_is : paid_with c.args.task.now.preemptions c.args.from.now.preemptions c.args.choice ≡ Some n = cc (c.paid_with-paid.ensures, c.in-Some.is) in
    let cost = cost_after c.args.task.now x c.args.from.now entries n c.args.choice c.in-Ok.entry opened longer.choice more paid_is in
    let paid = after.paid s c.args.task.now.signals (cost_of c.args.task.now.preemptions) (budget_of c.args.task.now.preemptions) may cost.0 cost.1 opened.searching.paid in
    let before = opened_after c.args.task.now x from made v x.graph opened (after.kept s c.args.task.now.signals may) may.started c.in_ok-entries-in-Ok.ensures.code after.few after.more stays single paid in
    let place = before.place in
    let in_time = entry_in_time s c.args.task.now.signals log c.args.hart.0 c.args.choice c.in-Ok.entry c.try_choice.new.parts longer c.requires.in_time in
    let told : IsBusyBy edge.busy c.args.choice entries = subst (λ (es : List Entry). IsBusyBy edge.busy c.args.choice es) c.deref-in-Ok.ensures.value c.is_busy-busy.ensures in
    let is_made = made_ok s ways made.start logs log c.in-Ok.entry entries made.parts c.owed_after-owed.result edge longer.run in_time more there (omega arith) before.log_is (after.back s c.args.task.now.signals may) c.equal_bytes_are_equal_words.ensures
    c.equal_words_are_the_same_place.ensures (subst (λ (d : Choice). IsBusyBy edge.busy d entries) (sym longer.choice) told) in
    opened_after c.args.task.now x from made v c.add_edge.new.self opened (after.kept s c.args.task.now.signals may) may.started c.in_ok-entries-in-Ok.ensures.code after.few after.more
    (edge_added s ways logs x.graph c.add_edge.new.self edge c.in_ok-add_edge-in-Ok.ensures.ok c.in_ok-add_edge-in-Ok.ensures.ended is_made stays) single paid

pub returns-in_ok-add_edge-in-Ok-clause-graph : goal.returns-in_ok-add_edge-in-Ok-clause-graph
returns-in_ok-add_edge-in-Ok-clause-graph c =
    let g = c.return_to.new.self.graph in
    more_graph c.args.self.now.graph g c.add_edge.new.self (equal_graph c.args.self.now.graph g c.in_ok-return_to.ensures.graph)
    (edge_more g c.add_edge.new.self (record { from = c.args.from.now.place; to = c.in_ok-to-in-Ok.to; busy = c.is_busy-busy.result }) c.in_ok-add_edge-in-Ok.ensures.ok c.in_ok-add_edge-in-Ok.ensures.ended)

pub returns-in_ok-add_edge-in-Ok-clause-tried : goal.returns-in_ok-add_edge-in-Ok-clause-tried
returns-in_ok-add_edge-in-Ok-clause-tried c =
    let s = setting_for c.args.task.now in
    let settle = c.args.task.now.settle in
    let ways = ways_of c.args.task.now in
    let x = c.return_to.new.self in
    let opened = c.in_ok-return_to.ensures.open in
    let from = c.args.from.now in
    let log = from.log.items in
    let made = c.settle.new.self in
    let entries = c.in_ok-entries-in-Ok.entries.items in
    let there = subst (λ (l : List Entry). IsStandingAt s c.args.task.now.signals l entries c.owed_after-owed.result made.parts) c.deref.ensures.value c.in_ok-entries-in-Ok.ensures.there in
    let more = subst (λ (l : List Entry). HasMore s ways l (c.in-Ok.entry ∷ []) entries) c.deref.ensures.value c.in_ok-entries-in-Ok.ensures.more in
    let may = may_visit c.args.task.now x from entries c.owed_after-owed.result made c.requires.task opened there c.in_ok-entries-in-Ok.ensures.start in
    let stands = c.in_ok-return_to.ensures.stands in
    let at = going c.args.task.now x from c.args.hart.0 c.requires.task opened stands c.requires.hart in
    let longer = c.in-Ok.ensures.ok s log at in
    let left : settle ≡ true → is_left from.sights c.try_choice.new.parts c.own_of-own.result ≡ true = λ on.
    elim c.else-task.branch [
      | else-task-via-then-task+else-not-is_left w ↦ sym w.if-not-is_left.ensures
      | else-task-via-else-task w ↦ absurd cc
    ] in
    let calm = calm_by s ways from c.args.hart.0 c.args.choice c.in-Ok.entry c.try_choice.new.parts c.own_of-own.result (open_run c.args.task.now x from opened) opened.sees longer
    (c.own_of-own.ensures s _ stands c.requires.hart) left c.kept_areas_are_left.ensures in
    let v = c.visit.new.self in
    let edge : Edge = record { from = from.place; to = c.in_ok-to-in-Ok.to; busy = c.is_busy-busy.result } in
    let told : IsBusyBy edge.busy c.args.choice entries = subst (λ (es : List Entry). IsBusyBy edge.busy c.args.choice es) c.deref-in-Ok.ensures.value c.is_busy-busy.ensures in
    let among = subst (λ (es : List Edge). Contains es edge) (sym c.in_ok-add_edge-in-Ok.ensures.ok) (Contains-push x.graph.edges.items edge) in
    let after = c.in_ok-to-in-Ok.ensures in
    let limit = c.args.task.now.preemptions in
    let n = c.in-Some.preemptions in
    let paid_is : paid_with c.args.task.now.preemptions c.args.from.now.preemptions c.args.choice ≡ Some n = cc (c.paid_with-paid.ensures, c.in-Some.is) in
    let cost = cost_after c.args.task.now x c.args.from.now entries n c.args.choice c.in-Ok.entry opened longer.choice more paid_is in
    let paid = after.paid s c.args.task.now.signals (cost_of c.args.task.now.preemptions) (budget_of c.args.task.now.preemptions) may cost.0 cost.1 opened.searching.paid in
    let kept = kept_is (cost_of limit) (budget_of limit) v.rows.items paid edge.to in
    let no_dearer = after.no_dearer in
    let n_is = cost.2 in
    let cheap : spent (cost_of limit) (log_by_number (logs_of v.rows.items) edge.to) ≤ spent (cost_of limit) log + cost_of limit c.args.choice = omega arith in
    λ due.
    tried_ok s ways (cost_of limit) made.start (logs_of v.rows.items) c.add_edge.new.self from.place log c.args.hart.0 c.args.choice c.in-Ok.entry c.try_choice.new.parts entries made.parts c.owed_after-owed.result edge (c.in-Ok.ensures.carried s log at) calm
    longer more there refl cheap among (c.in_ok-to-in-Ok.ensures.back s c.args.task.now.signals may) c.equal_bytes_are_equal_words.ensures c.equal_words_are_the_same_place.ensures told

pub returns-in_ok-add_edge-in-Ok-clause-ends : goal.returns-in_ok-add_edge-in-Ok-clause-ends
returns-in_ok-add_edge-in-Ok-clause-ends c =
    let s = setting_for c.args.task.now in
    let x = c.return_to.new.self in
    let made = c.settle.new.self in
    let entries = c.in_ok-entries-in-Ok.entries.items in
    let there = subst (λ (l : List Entry). IsStandingAt s c.args.task.now.signals l entries c.owed_after-owed.result made.parts) c.deref.ensures.value c.in_ok-entries-in-Ok.ensures.there in
    let may = may_visit c.args.task.now x c.args.from.now entries c.owed_after-owed.result made c.requires.task c.in_ok-return_to.ensures.open there c.in_ok-entries-in-Ok.ensures.start in
    λ not ends. c.in_ok-to-in-Ok.ensures.ends (λ is. absurd cc) s c.args.task.now.signals may (subst (λ (v : Visited). AreEndsFound s v) (sym c.in_ok-return_to.ensures.visited) ends)

pub returns-in-Err-clause-more : goal.returns-in-Err-clause-more
returns-in-Err-clause-more c = equal_more c.args.self.now.visited c.return_to.new.self.visited c.in_ok-return_to.ensures.visited

pub returns-in-Err-clause-graph : goal.returns-in-Err-clause-graph
returns-in-Err-clause-graph c = equal_graph c.args.self.now.graph c.return_to.new.self.graph c.in_ok-return_to.ensures.graph

pub returns-in-Err-clause-tried : goal.returns-in-Err-clause-tried
returns-in-Err-clause-tried c =
    let s = setting_for c.args.task.now in
    let x = c.return_to.new.self in
    let log = c.args.from.now.log.items in
    let at = going c.args.task.now x c.args.from.now c.args.hart.0 c.requires.task c.in_ok-return_to.ensures.open c.in_ok-return_to.ensures.stands c.requires.hart in
    λ due.
    tried_refused s (ways_of c.args.task.now) (cost_of c.args.task.now.preemptions) (logs_of x.visited.rows.items) x.graph c.args.from.now.place log c.args.hart.0 c.args.choice _ (c.in-Err.ensures.carried s log at) (c.in-Err.ensures.refused s log at)

pub returns-in-Err-clause-ends : goal.returns-in-Err-clause-ends
returns-in-Err-clause-ends c = λ not ends.
    subst (λ (v : Visited). AreEndsFound (setting_for c.args.task.now) v) (sym c.in_ok-return_to.ensures.visited) ends

-- WHERE A PREEMPTION IS LEFT OUT

none_by : (limit : Option ℕ) (n : ℕ) (c : Choice) (o : Option ℕ) → o ≡ paid_with limit n c → is_some o ≡ false → paid_with limit n c ≡ None
none_by limit n c None is none = sym is
none_by limit n c (Some m) is none = absurd cc

pub returns-then-self-clause-more : goal.returns-then-self-clause-more
returns-then-self-clause-more c = same_more c.args.self.now.visited

pub returns-then-self-clause-graph : goal.returns-then-self-clause-graph
returns-then-self-clause-graph c = same_graph c.args.self.now.graph

pub returns-then-self-clause-tried : goal.returns-then-self-clause-tried
returns-then-self-clause-tried c = λ due.
    let none = none_by c.args.task.now.preemptions c.args.from.now.preemptions c.args.choice c.paid_with-paid.result c.paid_with-paid.ensures c.if-is_none.ensures in
    absurd (not_due c.args.task.now.preemptions c.args.self.now.visited.left_out c.args.from.now.preemptions c.args.from.now.log.items c.args.choice (kept_cost c.args.task.now c.args.self.now c.args.from.now c.requires.open)
    none c.if-self.true due)

pub returns-in_default-clause-more : goal.returns-in_default-clause-more
returns-in_default-clause-more c =
    left_out_more c.args.self.now.visited c.return_to.new.self.visited (equal_more c.args.self.now.visited c.return_to.new.self.visited c.in_ok-return_to.ensures.visited)

pub returns-in_default-clause-graph : goal.returns-in_default-clause-graph
returns-in_default-clause-graph c = equal_graph c.args.self.now.graph c.return_to.new.self.graph c.in_ok-return_to.ensures.graph

pub returns-in_default-clause-tried : goal.returns-in_default-clause-tried
returns-in_default-clause-tried c = λ due.
    let x = c.return_to.new.self in
    absurd (not_due c.args.task.now.preemptions true c.args.from.now.preemptions c.args.from.now.log.items c.args.choice (kept_cost c.args.task.now x c.args.from.now c.in_ok-return_to.ensures.open)
    (sym c.paid_with-paid.ensures ∙ c.in_default.is) refl due)

pub returns-in_default-clause-ends : goal.returns-in_default-clause-ends
returns-in_default-clause-ends c = λ not ends.
    subst (λ (v : Visited). AreEndsFound (setting_for c.args.task.now) v) (sym c.in_ok-return_to.ensures.visited) ends
