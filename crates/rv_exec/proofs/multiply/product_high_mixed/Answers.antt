use Rattle.std.proofs.Common.{◌^◌, ◌*ℤ◌, pos, ap, ◌∙◌, rules, FitsSigned, ◌<◌}
use Rattle.std.specs.Int.{w64, int_shr}
use Rattle.rv_inst.specs.Words.{word}
use Rattle.rv_exec.proofs.Products.{high_mixed_product_is}
use Rattle.rv_exec.proofs.multiply.product_high_mixed.Goals as goal

pub returns : goal.returns
returns c =
    let fits_a : FitsSigned w64 c.cast_signed.result = search rules in
    let fits_b : c.args.b < 2 ^ 64 = c.ranges.b.fits in
    c.word.ensures ∙ ap word (high_mixed_product_is c.cast_signed.result c.args.b fits_a fits_b)
    ∙ ap (λ z. word (int_shr (z *ℤ pos c.args.b) 64)) c.cast_signed.ensures
