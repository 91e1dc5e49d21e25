use Rattle.std.proofs.Common.{◌<◌, List, length, take, sym, subst, arith}
use Rattle.mach_types.specs.declared.events.Entry.{Entry}
use Rattle.block_model.specs.Run.{IsBlockRun}
use Rattle.checkpoints.specs.Programs.{setting_for}
use Rattle.checkpoints.proofs.Copies.{checkpoint_of, one_more, others_past, run_taken}
use Rattle.checkpoints.proofs.checkpoints.Checkpoints.keep.Goals as goal

pub stand_as-requires-clause-run : goal.stand_as-requires-clause-run
stand_as-requires-clause-run c =
    let s = setting_for c.args.program.now in
    subst (λ (l : List Entry). IsBlockRun s (take c.args.count l)) (sym c.deref.ensures.value) (run_taken s c.args.self.now.log.items c.args.count c.requires.run)

pub returns-then-stand_as-clause-standing : goal.returns-then-stand_as-clause-standing
returns-then-stand_as-clause-standing c =
    let x = c.args.self.now in
    let s = setting_for c.args.program.now in
    let room : x.used < length x.slots.items = omega (arith, x.slots.ok.0) in
    one_more s x.log.items x.slots.items x.used c.stand_as.new.slot room
    (checkpoint_of s x.log.items c.deref.result.now c.args.count c.stand_as.new.slot c.requires.within c.deref.ensures.value c.if-stand_as.ensures.length c.if-stand_as.ensures.stands)
    c.requires.standing

pub returns-else-stand_as-clause-standing : goal.returns-else-stand_as-clause-standing
returns-else-stand_as-clause-standing c =
    let x = c.args.self.now in
    others_past (setting_for c.args.program.now) x.log.items x.slots.items x.used c.stand_as.new.slot c.requires.standing
