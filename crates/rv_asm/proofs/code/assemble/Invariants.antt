use Rattle.std.proofs.Common.{take}
use Rattle.rv_asm.specs.Assembly.{AreAssembled}
use Rattle.rv_asm.proofs.code.assemble.Given as goal

abbrev pub invariant-loop-index : goal.invariant-loop-index
invariant-loop-index l = AreAssembled l.labels (take l.index l.items) l.bytes.items
