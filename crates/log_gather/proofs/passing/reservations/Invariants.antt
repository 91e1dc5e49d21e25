use Rattle.std.proofs.Common.{◌≡◌, ℕ, length, get_or, cond, ltb, None}
use Rattle.log_gather.specs.Passing.{here_on}
use Rattle.log_gather.proofs.passing.reservations.Given as goal

-- the harts below the counter are filled
abbrev pub invariant-loop-hart : goal.invariant-loop-hart
invariant-loop-hart l = record {
  eight : length l.reserved ≡ 8;
  filled : (k : ℕ) → get_or l.reserved k None ≡ cond (ltb k l.hart) (here_on l.machine k).reserved None;
}
