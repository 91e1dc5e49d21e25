use Rattle.std.proofs.Common.{List, take, sym, subst}
use Rattle.mach_types.specs.declared.events.Entry.{Entry}
use Rattle.block_model.specs.Run.{IsBlockRun}
use Rattle.checkpoints.specs.Programs.{setting_for}
use Rattle.checkpoints.proofs.Copies.{run_taken}
use Rattle.checkpoints.proofs.checkpoints.Checkpoints.play_to.Goals as goal

pub play_on-requires-clause-run : goal.play_on-requires-clause-run
play_on-requires-clause-run c =
    let s = setting_for c.args.program.now in
    subst (λ (l : List Entry). IsBlockRun s (take c.args.to l)) (sym c.deref.ensures.value) (run_taken s c.args.self.now.log.items c.args.to c.requires.run)
