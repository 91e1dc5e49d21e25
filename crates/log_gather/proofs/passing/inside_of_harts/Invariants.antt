use Rattle.std.proofs.Common.{◌≡◌, ℕ, length, get_or, cond, ltb, false}
use Rattle.block_model.specs.Here.{runs}
use Rattle.log_gather.specs.Facts.{inside_on}
use Rattle.log_gather.specs.Passing.{here_on}
use Rattle.log_gather.proofs.passing.inside_of_harts.Given as goal

-- the harts below the counter are filled
abbrev pub invariant-loop-hart : goal.invariant-loop-hart
invariant-loop-hart l = record {
  eight : length l.inside_of ≡ 8;
  filled : (k : ℕ) → get_or l.inside_of k false ≡ cond (ltb k l.hart) (inside_on (here_on l.machine k) (runs (here_on l.machine k))) false;
}
