-- The barrier of a thread returns.
use Rattle.process.proofs.Common.{◌+◌, Some, None, refl, ap, HartState, counted, file_among, here_at, done_done_by}
use Rattle.mach_types.specs.declared.events.Choice.TheVariants as asked
use Rattle.process.proofs.DoneEvent.{file_apart, returned_own, returner}
use Rattle.process.proofs.Entries.{uncounted_as}
use Rattle.process.proofs.Events.{none_beside}
use Rattle.process.proofs.Places.{goes_on, hart_is, runs_there, was_not_stuck}
use Rattle.process.proofs.SignalEvent.{kept_running}
use Rattle.process.proofs.parts.Parts.returned.Goals as goal

pub returns : goal.returns
returns c v place free =
    let h = c.args.hart.0 in
    let m = c.args.self.now in
    let x = c.index_mut-state.result.now in
    let here = here_at v h in
    let is = returner here free in
    let t = is.0 in
    let d = done_done_by here (Some t) in
    let z : HartState = record x { file = c.set.new.self; waits = None; reserved = None } in
    uncounted_as v h asked.Done d m _ z place free (ap (done_done_by here) is.1) (record {
      own = returned_own _ v.setting v.plain h t x (counted z) (hart_is v m h x place c.index_mut-state.ensures.value) is.1
          (ap (λ f. let y : HartState = record x { file = f; waits = None; reserved = None; events = x.events + 1 } in y) c.set.ensures);
      harts = none_beside h d _ (record { none_begun = refl; none_taken = refl }) refl;
      pages = place.tied.pages;
      readable = place.tied.readable;
      tables = place.tied.tables;
      ids = λ k u ne runs. refl;
      table = place.tied.table;
      saved = kept_running v.plain.file (λ u. file_among d.files u (v.plain.file u)) t c.args.hart m.kernel.threads place.tied.table (runs_there v m c.args.hart t place is.1)
          (λ u other. file_apart here t u other) place.tied.saved;
      ended = goes_on v m h v.plain.kernel place (was_not_stuck v m h place);
    })
