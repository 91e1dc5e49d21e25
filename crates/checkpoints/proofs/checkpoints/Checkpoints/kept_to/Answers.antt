use Rattle.std.proofs.Common.{arith}
use Rattle.checkpoints.proofs.Copies.{within_more}
use Rattle.checkpoints.proofs.checkpoints.Checkpoints.kept_to.Goals as goal

pub loop-kept-preserved : goal.loop-kept-preserved
loop-kept-preserved c = record {
  used = omega arith;
  each = within_more c.args.self.now.slots.items c.loop-kept.kept c.args.same c.index.result.now c.index.ensures c.if-index-same.true c.loop-kept.invariant.each;
}
