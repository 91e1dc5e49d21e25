-- The answer that is told is the one in a0.
use Rattle.sys_calls.proofs.Common.{◌≡◌, ◌<◌, ◌∙◌, ap, sym, ℤ, ℕ, to_z, of_z, of_z-to_z, w64}
use Rattle.sys_calls.proofs.arguments.go_on.Goals as goal

-- bits that are read as a signed number and written again, twice
written : (z : ℤ) (n : ℕ) → n < 18446744073709551616 → z ≡ to_z w64 n → of_z w64 (to_z w64 (of_z w64 z)) ≡ n
written z n fits is =
    let bits : of_z w64 z ≡ n = ap (of_z w64) is ∙ of_z-to_z w64 n fits in
    ap (λ (b : ℕ). of_z w64 (to_z w64 b)) bits ∙ of_z-to_z w64 n fits

pub returns-clause-answer : goal.returns-clause-answer
returns-clause-answer c =
    written c.cast_signed.result c.value_of-value.result c.value_of-value.type_inv c.cast_signed.ensures ∙ sym c.answer.ensures.a0
