-- Products of two numbers of 64 bits, in 128 bits: nothing is lost.
use Rattle.std.proofs.Common.{◌≡◌, ℕ, ◌-◌, ◌<◌, ◌≤◌, ◌^◌, ℤ, pos, negsuc, ◌*ℤ◌, FitsSigned, to_z, of_z, arith, refl}
use Rattle.std.specs.Int.{w64, w128}
use Rattle.std.specs.Prelude.{unsigned_abs}
use Rattle.std.proofs.lemmas.Int.{to_z-of_z, to_z_pos, fits_signed_mul}
use lib.Signed.{mag, shr_z}

-- a number of 64 bits is one of 128 bits
wide : (a : ℤ) → FitsSigned w64 a → FitsSigned w128 a
wide a fits = let f : mag a < 2 ^ 63 = fits.sfits in record { sfits = omega arith }

abs_of : (a : ℤ) → FitsSigned w64 a → unsigned_abs a ≤ 2 ^ 63
abs_of (pos n) fits = let f : n < 2 ^ 63 = fits.sfits in omega arith
abs_of (negsuc n) fits = let f : n < 2 ^ 63 = fits.sfits in omega arith

-- the high half of a number of 128 bits has 64 bits
half : (z : ℤ) → FitsSigned w128 z → FitsSigned w64 (shr_z z (2 ^ 64))
half (pos n) fits = let f : n < 2 ^ 127 = fits.sfits in record { sfits = omega arith }
half (negsuc n) fits = let f : n < 2 ^ 127 = fits.sfits in record { sfits = omega arith }

-- the high half of the product of two signed numbers, as the code computes it
pub high_product_is : (a b : ℤ) → FitsSigned w64 a → FitsSigned w64 b →
    to_z w64 (of_z w64 (to_z w128 (of_z w128 (shr_z (to_z w128 (of_z w128 (to_z w128 (of_z w128 (to_z w64 (of_z w64 a))) *ℤ to_z w128 (of_z w128 (to_z w64 (of_z w64 b)))))) (2 ^ 64))))) ≡ shr_z (a *ℤ b) (2 ^ 64)
high_product_is a b fa fb =
    let wa : FitsSigned w128 a = wide a fa in
    let wb : FitsSigned w128 b = wide b fb in
    let wp : FitsSigned w128 (a *ℤ b) = fits_signed_mul w128 a b (2 ^ 63) (2 ^ 63) (abs_of a fa) (abs_of b fb) (omega arith) in
    let fs : FitsSigned w64 (shr_z (a *ℤ b) (2 ^ 64)) = half (a *ℤ b) wp in
    let ws : FitsSigned w128 (shr_z (a *ℤ b) (2 ^ 64)) = wide (shr_z (a *ℤ b) (2 ^ 64)) fs in
    simp to_z-of_z refl

-- the same of a signed and an unsigned number
pub high_mixed_product_is : (a : ℤ) (b : ℕ) → FitsSigned w64 a → b < 2 ^ 64 →
    to_z w64 (of_z w64 (to_z w128 (of_z w128 (shr_z (to_z w128 (of_z w128 (to_z w128 (of_z w128 (to_z w64 (of_z w64 a))) *ℤ to_z w128 b))) (2 ^ 64))))) ≡ shr_z (a *ℤ pos b) (2 ^ 64)
high_mixed_product_is a b fa fb =
    let wa : FitsSigned w128 a = wide a fa in
    let eb : to_z w128 b ≡ pos b = to_z_pos w128 b (omega arith) in
    let wp : FitsSigned w128 (a *ℤ pos b) = fits_signed_mul w128 a (pos b) (2 ^ 63) (2 ^ 64 - 1) (abs_of a fa) (omega arith) (omega arith) in
    let fs : FitsSigned w64 (shr_z (a *ℤ pos b) (2 ^ 64)) = half (a *ℤ pos b) wp in
    let ws : FitsSigned w128 (shr_z (a *ℤ pos b) (2 ^ 64)) = wide (shr_z (a *ℤ pos b) (2 ^ 64)) fs in
    rw eb (simp to_z-of_z refl)
