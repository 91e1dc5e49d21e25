use Rattle.std.proofs.Common.{◌≡◌, sym, ◌∙◌, refl, ap, arith, [], ◌∷◌}
use Rattle.rv_inst.specs.Fields.{field}
use Rattle.rv_inst.specs.Table.{rows}
use Rattle.rv_decode.proofs.Masks.{and_ffffffff}
use Rattle.rv_decode.proofs.Rows.{by_mask, is_none_of, no_field, none_more}
use Rattle.rv_decode.proofs.decoder.decode_system.Goals as goal

pub returns-in-115 : goal.returns-in-115
unfolding rows
returns-in-115 c = sym (by_mask c.args.word 0xffffffff 115 (and_ffffffff c.args.word (omega arith) ∙ c.in-115.is))

pub returns-in-1048691 : goal.returns-in-1048691
unfolding rows
returns-in-1048691 c = sym (by_mask c.args.word 0xffffffff 1048691 (and_ffffffff c.args.word (omega arith) ∙ c.in-1048691.is))

pub returns-in_default : goal.returns-in_default
unfolding rows
returns-in_default c =
    let whole : field 0 32 c.args.word ≡ c.args.word = omega arith in
    sym (no_field 115 0 32 (115 ∷ 1048691 ∷ []) c.args.word c.requires (ap (is_none_of (115 ∷ 1048691 ∷ [])) whole ∙ none_more c.args.word 115 (1048691 ∷ []) (omega arith) (none_more c.args.word 1048691 [] (omega arith) refl)))
