use Rattle.std.proofs.Common.{sym, ◌∙◌, refl, ap, arith, [], ◌∷◌}
use Rattle.rv_inst.specs.Table.{rows}
use Rattle.rv_decode.proofs.Rows.{is_none_of, no_two_fields, none_more}
use Rattle.rv_decode.proofs.memory.decode_amo_double.Goals as goal

pub returns-in_default : goal.returns-in_default
unfolding rows
returns-in_default c =
    sym (no_two_fields 47 12 3 3 27 5 (0 ∷ 1 ∷ 2 ∷ 3 ∷ 4 ∷ 8 ∷ 12 ∷ 16 ∷ 20 ∷ 24 ∷ 28 ∷ []) c.args.word c.requires.is_amo c.requires.is_double (ap (is_none_of (0 ∷ 1 ∷ 2 ∷ 3 ∷ 4 ∷ 8 ∷ 12 ∷ 16 ∷ 20 ∷ 24 ∷ 28 ∷ [])) (sym c.funct5_of.ensures) ∙ none_more c.funct5_of.result 0 (1 ∷ 2 ∷ 3 ∷ 4 ∷ 8 ∷ 12 ∷ 16 ∷ 20 ∷ 24 ∷ 28 ∷ []) (omega arith) (none_more c.funct5_of.result 1 (2 ∷ 3 ∷ 4 ∷ 8 ∷ 12 ∷ 16 ∷ 20 ∷ 24 ∷ 28 ∷ []) (omega arith) (none_more c.funct5_of.result 2 (3 ∷ 4 ∷ 8 ∷ 12 ∷ 16 ∷ 20 ∷ 24 ∷ 28 ∷ []) (omega arith) (none_more c.funct5_of.result 3 (4 ∷ 8 ∷ 12 ∷ 16 ∷ 20 ∷ 24 ∷ 28 ∷ []) (omega arith) (none_more c.funct5_of.result 4 (8 ∷ 12 ∷ 16 ∷ 20 ∷ 24 ∷ 28 ∷ []) (omega arith) (none_more c.funct5_of.result 8 (12 ∷ 16 ∷ 20 ∷ 24 ∷ 28 ∷ []) (omega arith) (none_more c.funct5_of.result 12 (16 ∷ 20 ∷ 24 ∷ 28 ∷ []) (omega arith) (none_more c.funct5_of.result 16 (20 ∷ 24 ∷ 28 ∷ []) (omega arith) (none_more c.funct5_of.result 20 (24 ∷ 28 ∷ []) (omega arith) (none_more c.funct5_of.result 24 (28 ∷ []) (omega arith) (none_more c.funct5_of.result 28 ([]) (omega arith) refl))))))))))))
