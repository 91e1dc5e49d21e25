-- So many zeros entered memory, and no permission changed.
use Rattle.sys_calls.proofs.Common.{◌≡◌, ℕ, [], ◌∷◌, IsEntered, can_write_in}
use Rattle.block_model.specs.Calls.Answers.{zeros_written}
use Rattle.sys_calls.proofs.ranges.fill.Given as goal

abbrev pub invariant-loop-index : goal.invariant-loop-index
invariant-loop-index l = record {
  entered : IsEntered l.fn.pages l.pages (zeros_written l.at l.index ∷ []);
  same : (a : ℕ) → can_write_in l.pages a ≡ can_write_in l.fn.pages a;
}
