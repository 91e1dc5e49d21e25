-- A set of harts fits a byte.
use Rattle.std.proofs.Common.{◌≡◌, ℕ, zero, suc, ◌*◌, ◌%◌, ◌+◌, ◌^◌, ◌<◌, Bool, Fits, w8, arith}
use Rattle.mach_types.specs.Kernel.Barriers.{harts_that}
use Rattle.mach_types.proofs.Laws.{harts_that-fits}

pub one_more_fits : (test : ℕ → Bool) (n set : ℕ) → n < 8 → set ≡ harts_that test n → Fits w8 (set + 1 * 2 ^ n % 256)
one_more_fits test zero set lt is = let below = harts_that-fits test 0 in omega (arith, below, is)
one_more_fits test (suc zero) set lt is = let below = harts_that-fits test 1 in omega (arith, below, is)
one_more_fits test (suc (suc zero)) set lt is = let below = harts_that-fits test 2 in omega (arith, below, is)
one_more_fits test (suc (suc (suc zero))) set lt is = let below = harts_that-fits test 3 in omega (arith, below, is)
one_more_fits test (suc (suc (suc (suc zero)))) set lt is = let below = harts_that-fits test 4 in omega (arith, below, is)
one_more_fits test (suc (suc (suc (suc (suc zero))))) set lt is = let below = harts_that-fits test 5 in omega (arith, below, is)
one_more_fits test (suc (suc (suc (suc (suc (suc zero)))))) set lt is = let below = harts_that-fits test 6 in omega (arith, below, is)
one_more_fits test (suc (suc (suc (suc (suc (suc (suc zero))))))) set lt is = let below = harts_that-fits test 7 in omega (arith, below, is)
one_more_fits test (suc (suc (suc (suc (suc (suc (suc (suc n)))))))) set lt is = absurd (omega (arith, lt))
