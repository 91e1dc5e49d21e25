use Rattle.std.proofs.Common.{◌≡◌, ◌<◌, ◌≤◌, ◌%◌, ◌^◌, ℕ, false, eqb, ap, arith}
use Rattle.std.proofs.Math.Nat.{div-eq_of_lt, pow-le-pow_right}
use Rattle.std.proofs.lemmas.Bool.Decides.{nat_tests}
use Rattle.mach_types.specs.Kernel.Scheduling.{has_hart}
use Rattle.scheduler.proofs.hart_sets.has_hart.Goals as goal

-- a set of 8 harts has none past them
past_the_last : (set hart : ℕ) → set < 256 → 8 ≤ hart → has_hart set hart ≡ false
past_the_last set hart small past =
    let power : 2 ^ 8 ≤ 2 ^ hart = pow-le-pow_right {n = 2} (omega arith) past in
    let below : set < 2 ^ hart = omega arith in
    ap (λ (n : ℕ). eqb (n % 2) 1) (div-eq_of_lt below)

pub returns-else-hart-lt8 : goal.returns-else-hart-lt8
returns-else-hart-lt8 c =
    let none = past_the_last c.args.set c.args.hart (omega arith) (omega arith) in
    grind (arith, nat_tests)
