-- Quotients of numbers of 32 bits, also that of the least one by -1.
use Rattle.std.proofs.Common.{◌≡◌, ℕ, zero, suc, ◌/◌, ◌%◌, ◌<◌, ◌≤◌, ◌^◌, ℤ, pos, negsuc, neg_ℤ, FitsSigned, to_z, of_z, arith, ap, sym, ◌∙◌}
use Rattle.std.specs.Int.{w32, w64, int_wrapping_div}
use Rattle.std.specs.Prelude.{int_div}
use Rattle.std.proofs.Math.Nat.{div-le_self, mod-eq_of_lt}
use Rattle.std.proofs.lemmas.Int.{to_z-of_z}
use Rattle.rv_inst.specs.Words.{word, sign_extended_32}
use lib.Signed.{mag}

negated : (n : ℕ) → of_z w32 (neg_ℤ (pos n)) < 2 ^ 32
negated zero = omega arith
negated (suc n) = omega arith

-- the quotient's bits are 32, though the quotient may not fit as a signed number
quotient_bits : (a b : ℤ) → FitsSigned w32 a → of_z w32 (int_div a b) < 2 ^ 32
quotient_bits (pos a) (pos b) fits = let f : a < 2 ^ 31 = fits.sfits in let le : a / b ≤ a = div-le_self a b in omega arith
quotient_bits (pos a) (negsuc b) fits = negated (a / suc b)
quotient_bits (negsuc a) (pos b) fits = negated (suc a / b)
quotient_bits (negsuc a) (negsuc b) fits = let f : a < 2 ^ 31 = fits.sfits in let le : suc a / suc b ≤ suc a = div-le_self (suc a) (suc b) in omega arith

wide : (z : ℤ) → FitsSigned w32 z → FitsSigned w64 z
wide z fits = let f : mag z < 2 ^ 31 = fits.sfits in record { sfits = omega arith }

-- what the code computes, as the meaning has it
pub quotient_32_is : (a b r : ℤ) → FitsSigned w32 a → FitsSigned w32 b → FitsSigned w32 r →
    r ≡ int_wrapping_div w32 (to_z w32 (of_z w32 a)) (to_z w32 (of_z w32 b)) →
    word (to_z w64 (of_z w64 (to_z w32 (of_z w32 r)))) ≡ sign_extended_32 (of_z w32 (int_div a b))
quotient_32_is a b r fa fb fr e =
    let q : ℕ = of_z w32 (int_div a b) in
    let small : q < 2 ^ 32 = quotient_bits a b fa in
    let wr : FitsSigned w64 r = wide r fr in
    let plain : r ≡ to_z w32 q = simp to_z-of_z at e in
    let whole : q % 2 ^ 32 ≡ q = mod-eq_of_lt small in
    simp to_z-of_z (ap word plain ∙ ap (λ n. word (to_z w32 n)) (sym whole))
