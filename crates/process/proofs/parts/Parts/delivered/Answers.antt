-- The event of a signal.
use Rattle.process.proofs.Common.{ap, ◌∙◌, here_at, done_here, ended_unless}
use Rattle.mach_types.specs.declared.events.Kind.TheVariants as kind
use Rattle.process.proofs.Places.{hart_is, still_there}
use Rattle.process.proofs.SignalEvent.{delivered_event, interrupted_there, receiving, same_signal, some_signal}
use Rattle.process.proofs.SignalsOfHarts.{entry_runs, has_signals, held_named}
use Rattle.process.proofs.parts.Parts.delivered.Goals as goal

pub deliverable-requires-clause-held : goal.deliverable-requires-clause-held
deliverable-requires-clause-held c =
    let v = c.requires.stand in let place = c.requires.place in
    has_signals v c.args.self.now c.args.hart.0 place.stands place.tied place.lt

pub handled-killer-requires-clause-held : goal.handled-killer-requires-clause-held
handled-killer-requires-clause-held c =
    let v = c.requires.stand in
    let m = c.args.self.now in
    let place = c.requires.place in
    let is = receiving (here_at v c.args.hart.0) c.requires.free in
    held_named v m c.args.hart kind.Signal is.thread c.index-state.result.now c.entry_of-entry.result place is.at c.index-state.ensures c.entry_of-entry.ensures

pub unreachable-requires : goal.unreachable-requires
unreachable-requires c =
    let v = c.requires.stand in
    let is = receiving (here_at v c.args.hart.0) c.requires.free in
    some_signal v c.args.self.now c.args.hart c.requires.place c.requires.free is c.deliverable.result
    (c.deliverable.ensures v.setting v.plain c.requires.place.tied c.requires.place.lt) c.in_default.is

pub go_on-requires : goal.go_on-requires
go_on-requires c =
    let v = c.requires.stand in
    let m = c.args.self.now in
    let h = c.args.hart in
    let x = c.index-state.result.now in
    let place = c.requires.place in
    let is = receiving (here_at v h.0) c.requires.free in
    let named = entry_runs v m h kind.Signal is.thread x c.entry_of-entry.result place is.at c.index-state.ensures c.entry_of-entry.ensures in
    still_there v m h.0 (done_here (here_at v h.0) c.entry_of-entry.result.tid.0 c.in-Some.signal).entered c.handled-killer.new.self.harts.items place
    (c.handled-killer.ensures.delivered (here_at v h.0) (interrupted_there v m h place c.requires.free is x c.entry_of-entry.result.tid.0 named (hart_is v m h.0 x place c.index-state.ensures))).harts

pub returns : goal.returns
returns c v place free =
    let m = c.args.self.now in
    let h = c.args.hart in
    let x = c.index-state.result.now in
    let is = receiving (here_at v h.0) free in
    let t = c.entry_of-entry.result.tid.0 in
    let named = entry_runs v m h kind.Signal is.thread x c.entry_of-entry.result place is.at c.index-state.ensures c.entry_of-entry.ensures in
    let same = same_signal v m h place free is c.deliverable.result c.in-Some.signal (c.deliverable.ensures v.setting v.plain place.tied place.lt) c.in-Some.is in
    let made = c.handled-killer.ensures.delivered (here_at v h.0) (interrupted_there v m h place free is x t named (hart_is v m h.0 x place c.index-state.ensures)) in
    delivered_event v m h place free is t c.in-Some.signal named same c.handled-killer.result c.handled-killer.new.saved c.handled-killer.new.self c.go_on.new.self (record {
      made = made;
      changed = c.go_on.ensures.harts;
      same_pages = c.go_on.ensures.pages;
      same_kernel = c.go_on.ensures.kernel;
      others = c.handled-killer.ensures.others;
      ended = c.go_on.ensures.ended ∙ ap (ended_unless c.handled-killer.result) c.handled-killer.ensures.ended;
    })
