use Rattle.std.proofs.Common.{◌≡◌, ◌==◌, ap, ◌∙◌, sym, rules, FitsSigned, false, cond, ◌-◌, ◌^◌, ne_eqb}
use Rattle.std.specs.Int.{w32, cast_unsigned}
use Rattle.std.specs.Prelude.{int_div}
use Rattle.rv_inst.specs.Words.{signed_32, low_32, sign_extended_32}
use Rattle.rv_exec.proofs.Quotients.{quotient_32_is}
use Rattle.rv_exec.proofs.multiply.quotient_32.Goals as goal

pub returns-else-low_32-eq0 : goal.returns-else-low_32-eq0
returns-else-low_32-eq0 c =
    let fits_a : FitsSigned w32 c.signed_32.result = search rules in
    let fits_b : FitsSigned w32 c.signed_32-else-low_32-eq0.result = search rules in
    let fits_r : FitsSigned w32 c.wrapping_div.result = search rules in
    let not_zero : (low_32 c.args.b == 0) ≡ false = ne_eqb _ _ (λ z. c.if-low_32-eq0.false (c.low_32.ensures ∙ z)) in
    c.word.ensures
    ∙ quotient_32_is c.signed_32.result c.signed_32-else-low_32-eq0.result c.wrapping_div.result fits_a fits_b fits_r c.wrapping_div.ensures
    ∙ ap (λ z. sign_extended_32 (cast_unsigned w32 (int_div z c.signed_32-else-low_32-eq0.result))) c.signed_32.ensures
    ∙ ap (λ z. sign_extended_32 (cast_unsigned w32 (int_div (signed_32 c.args.a) z))) c.signed_32-else-low_32-eq0.ensures
    ∙ sym (ap (λ t. cond t (2 ^ 64 - 1) (sign_extended_32 (cast_unsigned w32 (int_div (signed_32 c.args.a) (signed_32 c.args.b))))) not_zero)
