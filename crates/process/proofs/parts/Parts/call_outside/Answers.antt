use Rattle.process.proofs.Common.{ap, refl, sym, ◌∙◌, Done, IsPlace, IsPlanned, Stand, here_at, running_on, called}
use Rattle.process.specs.Called.{IsCalled}
use Rattle.process.proofs.SystemCalls.{IsCalling, areas_found, call_next, calling, numbers_left, running_found, signals_found, tables_found}
use Rattle.process.proofs.parts.Parts.call_outside.Goals.{After-as_slice, After-entry_of-entry}
use Rattle.process.proofs.parts.Parts.call_outside.Goals as goal

-- the call, as it finds the parts
is_calling : (c : After-entry_of-entry) (v : Stand) → IsPlace v c.args.self.now c.args.hart.0 → IsPlanned v c.args.hart.0 call_next
    → IsCalling v c.args.self.now c.args.hart c.busy_harts-running.result c.len-harts.result c.index-state.result.now c.entry_of-entry.result
is_calling c v place plan =
    calling v c.args.self.now c.args.hart c.busy_harts-running.result c.len-harts.result c.index-state.result.now c.entry_of-entry.result place plan c.requires.outside
    c.busy_harts-running.ensures (c.len-harts.ensures ∙ c.args.self.now.harts.ok.0) c.index-state.ensures c.entry_of-entry.ensures

pub make_call-done-requires-clause-numbers : goal.make_call-done-requires-clause-numbers
make_call-done-requires-clause-numbers c = numbers_left c.requires.plan.stand c.args.self.now c.args.hart.0 c.requires.plan.place

pub make_call-done-requires-clause-running : goal.make_call-done-requires-clause-running
make_call-done-requires-clause-running c =
    running_found c.requires.plan.stand c.args.self.now c.args.hart.0 c.busy_harts-running.result c.len-harts.result c.requires.plan.place c.busy_harts-running.ensures (c.len-harts.ensures ∙ c.args.self.now.harts.ok.0)

pub make_call-done-requires-clause-tables : goal.make_call-done-requires-clause-tables
make_call-done-requires-clause-tables c = tables_found c.requires.plan.stand c.args.self.now c.args.hart.0 c.len-harts.result c.requires.plan.place (c.len-harts.ensures ∙ c.args.self.now.harts.ok.0)

pub make_call-done-requires-clause-runs : goal.make_call-done-requires-clause-runs
make_call-done-requires-clause-runs c =
    let is = c.requires.plan in
    ap (running_on c.args.hart.0) is.place.tied.tables.threads ∙ (is_calling (goal.at.make_call-done-requires-clause-runs c).After-entry_of-entry is.stand is.place is.plan).runs

pub make_call-done-requires-clause-signals : goal.make_call-done-requires-clause-signals
make_call-done-requires-clause-signals c = signals_found c.requires.plan.stand c.args.self.now c.args.hart.0 c.requires.plan.place

pub make_call-done-requires-clause-areas : goal.make_call-done-requires-clause-areas
make_call-done-requires-clause-areas c = areas_found c.requires.plan.stand c.args.self.now c.args.hart.0 c.requires.plan.place

-- what is then to be ended
is_called : (c : After-as_slice) (v : Stand) → IsPlace v c.args.self.now c.args.hart.0 → IsPlanned v c.args.hart.0 call_next
    → IsCalling v c.args.self.now c.args.hart c.busy_harts-running.result c.len-harts.result c.index-state.result.now c.entry_of-entry.result
    → IsCalled v c.args.hart.0 c.args.self.now (record c.args.self.now { kernel = c.make_call-done.new.kernel; pages = c.make_call-done.new.pages }) c.make_call-done.result.end
    c.make_call-done.new.saved c.as_slice.result.now (called (here_at v c.args.hart.0) c.entry_of-entry.result.tid.0)
is_called c v place plan is = record {
  place = place;
  thread = c.entry_of-entry.result.tid.0;
  at = is.runs;
  free = plan.free;
  done = is.done;
  made = c.make_call-done.ensures.made (here_at v c.args.hart.0) is.at;
  table = c.make_call-done.ensures.table;
  written = c.as_slice.ensures.value ∙ c.make_call-done.ensures.written (here_at v c.args.hart.0) is.at;
  harts = refl;
}

pub finish_call-requires : goal.finish_call-requires
finish_call-requires c =
    let at = goal.at.finish_call-requires c in
    let is = c.requires.plan in
    let its = is_called at.After-as_slice is.stand is.place is.plan (is_calling at.After-entry_of-entry is.stand is.place is.plan) in
    record { stand = is.stand; before = c.args.self.now; done = called (here_at is.stand c.args.hart.0) c.entry_of-entry.result.tid.0; called = its }

pub returns-clause-made : goal.returns-clause-made
returns-clause-made c v place plan =
    let at = goal.at.returns-clause-made c in
    c.finish_call.ensures v c.args.self.now _ (is_called at.After-as_slice v place plan (is_calling at.After-entry_of-entry v place plan))

pub returns-clause-written : goal.returns-clause-written
returns-clause-written c v place plan =
    let is = is_calling (goal.at.returns-clause-written c).After-entry_of-entry v place plan in
    c.make_call-done.ensures.written (here_at v c.args.hart.0) is.at ∙ ap (λ (d : Done). d.entered) (sym is.done)
