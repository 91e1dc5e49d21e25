use Rattle.process.proofs.Common.{Some, ◌+◌, refl, ap, ◌∙◌, Ready, HartState, counted, here_at, done_preempt_by, left, holds_left}
use Rattle.mach_types.specs.declared.events.Choice.TheVariants as asked
use Rattle.process.proofs.Entries.{uncounted_as}
use Rattle.process.proofs.Events.{none_beside}
use Rattle.process.proofs.HartEvents.{preempt_own}
use Rattle.process.proofs.ConcurrencyIds.{id_without_other, others_apart}
use Rattle.process.proofs.SavedFiles.{saved_left}
use Rattle.process.proofs.PreemptEvent.{leaving}
use Rattle.process.proofs.StuckProcess.{not_stuck}
use Rattle.process.proofs.Places.{goes_on, tables_at}
use Rattle.process.proofs.parts.Parts.left.Goals as goal

pub leave-requires : goal.leave-requires
leave-requires c =
    let is = leaving c.requires.stand c.args.self.now c.args.hart c.index_mut-state.result.now c.entry_of-entry.result c.requires.place c.requires.free c.index_mut-state.ensures.value c.entry_of-entry.ensures in
    (c.args.hart, is.runs)

pub push-requires-clause-held : goal.push-requires-clause-held
push-requires-clause-held c =
    let is = leaving c.requires.stand c.args.self.now c.args.hart c.index_mut-state.result.now c.entry_of-entry.result c.requires.place c.requires.free c.index_mut-state.ensures.value c.entry_of-entry.ensures in
    is.held

pub push-requires-clause-not_ready : goal.push-requires-clause-not_ready
push-requires-clause-not_ready c =
    let is = leaving c.requires.stand c.args.self.now c.args.hart c.index_mut-state.result.now c.entry_of-entry.result c.requires.place c.requires.free c.index_mut-state.ensures.value c.entry_of-entry.ensures in
    is.not_ready

pub returns : goal.returns
returns c v place free =
    let h = c.args.hart.0 in
    let p = v.plain in
    let x = c.index_mut-state.result.now in
    let m = c.args.self.now in
    let is = leaving v m c.args.hart x c.entry_of-entry.result place free c.index_mut-state.ensures.value c.entry_of-entry.ensures in
    let t = c.entry_of-entry.result.tid.0 in
    uncounted_as v h asked.Preempt (done_preempt_by (here_at v h) (Some t)) m _ c.leave-saved.new.self place free (ap (done_preempt_by (here_at v h)) is.at) (record {
      own = preempt_own _ v.setting p h t x (counted c.leave-saved.new.self) is.own (tables_at v m h place) is.at (ap (λ (z : HartState). record z { events = z.events + 1 }) c.leave-saved.ensures.hart);
      harts = none_beside h (done_preempt_by (here_at v h) (Some t)) _ (record { none_begun = refl; none_taken = refl }) refl;
      pages = place.tied.pages;
      readable = place.tied.readable;
      tables = holds_left place.tied.tables t c.leave.new.self c.push.new.self c.leave.ensures.threads c.push.ensures;
      ids = λ k u ne runs. id_without_other t u p.kernel.ids (others_apart v.setting.limits.harts h k t u p.kernel.threads p.kernel.scheduling (tables_at v m h place) is.at runs ne);
      table = c.leave.ensures.table;
      saved = saved_left p.file t c.leave-saved.result m.kernel.threads c.leave.new.self c.leave.ensures.saved (c.leave-saved.ensures.file ∙ is.file) place.tied.saved;
      ended = goes_on v m h (left t p.kernel) place (not_stuck t Ready p.kernel.threads refl is.live);
    })
