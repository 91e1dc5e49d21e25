use Rattle.std.proofs.Common.{◌*ℤ◌, ap, ◌∙◌, rules, FitsSigned}
use Rattle.std.specs.Int.{w64, int_shr}
use Rattle.rv_inst.specs.Words.{word, signed}
use Rattle.rv_exec.proofs.Products.{high_product_is}
use Rattle.rv_exec.proofs.multiply.product_high.Goals as goal

pub returns : goal.returns
returns c =
    let fits_a : FitsSigned w64 c.cast_signed.result = search rules in
    let fits_b : FitsSigned w64 c.cast_signed-2.result = search rules in
    c.word.ensures ∙ ap word (high_product_is c.cast_signed.result c.cast_signed-2.result fits_a fits_b)
    ∙ ap (λ z. word (int_shr (z *ℤ c.cast_signed-2.result) 64)) c.cast_signed.ensures
    ∙ ap (λ z. word (int_shr (signed c.args.a *ℤ z) 64)) c.cast_signed-2.ensures
