-- The frame of a handler, behind the writes of an interruption.
use Rattle.process.proofs.Common.{ap, here_at, Saved}
use Rattle.mach_types.specs.declared.events.Kind.TheVariants as kind
use Rattle.process.proofs.KernelWrites.{frame_behind}
use Rattle.process.proofs.Places.{hart_is}
use Rattle.process.proofs.SignalEvent.{interrupted_there, receiving, same_signal, some_signal}
use Rattle.process.proofs.SignalsOfHarts.{entry_runs, has_signals, held_named}
use Rattle.process.proofs.parts.Parts.with_frame.Goals as goal

pub deliverable-requires-clause-held : goal.deliverable-requires-clause-held
deliverable-requires-clause-held c =
    let v = c.requires.allowed.stand in let place = c.requires.allowed.place in
    has_signals v c.args.self.now c.args.hart.0 place.stands place.tied place.lt

pub add_frame-requires-clause-held : goal.add_frame-requires-clause-held
add_frame-requires-clause-held c =
    let v = c.requires.allowed.stand in
    let place = c.requires.allowed.place in
    let is = receiving (here_at v c.args.hart.0) c.requires.allowed.free in
    held_named v c.args.self.now c.args.hart kind.Signal is.thread c.index-state.result.now c.entry_of-entry.result place is.at c.index-state.ensures c.entry_of-entry.ensures

pub unreachable-requires : goal.unreachable-requires
unreachable-requires c =
    let v = c.requires.allowed.stand in
    let is = receiving (here_at v c.args.hart.0) c.requires.allowed.free in
    some_signal v c.args.self.now c.args.hart c.requires.allowed.place c.requires.allowed.free is c.deliverable.result
    (c.deliverable.ensures v.setting v.plain c.requires.allowed.place.tied c.requires.allowed.place.lt) c.in_default.is

pub returns : goal.returns
returns c v place free comes lives cleared =
    let m = c.args.self.now in
    let h = c.args.hart in
    let here = here_at v h.0 in
    let x = c.index-state.result.now in
    let o = c.args.outcome in
    let is = receiving here free in
    let t = c.entry_of-entry.result.tid.0 in
    let named = entry_runs v m h kind.Signal is.thread x c.entry_of-entry.result place is.at c.index-state.ensures c.entry_of-entry.ensures in
    let same = same_signal v m h place free is c.deliverable.result c.in-Some.signal (c.deliverable.ensures v.setting v.plain place.tied place.lt) c.in-Some.is in
    let found = interrupted_there v m h place free is x t named (hart_is v m h.0 x place c.index-state.ensures) in
    frame_behind here is o free comes lives m t h.0 c.in-Some.signal named same (record { file = x.file; pc = x.pc }) (record { file = x.file; pc = c.pc_after-pc.result }) found
    (ap (λ n. let y : Saved = record { file = x.file; pc = n } in y) c.pc_after-pc.ensures) c.args.writes.items c.add_frame.new.writes.items cleared c.add_frame.ensures
