-- The harts so far are those of the others, and there are as many.
use Rattle.process.proofs.Common.{◌≡◌, length, take}
use Rattle.process.proofs.copying.copy_harts.Given as goal

abbrev pub invariant-loop-index : goal.invariant-loop-index
invariant-loop-index l = record {
  count : length l.harts ≡ length l.fn.harts;
  copied : take l.index l.harts ≡ take l.index l.others;
}
