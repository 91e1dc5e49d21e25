use Rattle.signals.proofs.Masks.{maskable-is_mask}
use Rattle.signals.proofs.theorems.kill_and_stop_are_never_masked.Goals as goal

pub returns : goal.returns
returns c = record {
  maskable = maskable-is_mask;
  changed = λ how signals mask. maskable-is_mask _;
  entered = λ s mask a. maskable-is_mask _;
}
