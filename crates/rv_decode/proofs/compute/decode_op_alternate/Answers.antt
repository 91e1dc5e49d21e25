use Rattle.std.proofs.Common.{sym, ◌∙◌, refl, ap, arith, [], ◌∷◌}
use Rattle.rv_inst.specs.declared.instruction.Inst.TheVariants as inst
use Rattle.rv_inst.specs.Fields.{rd, rs1, rs2}
use Rattle.rv_inst.specs.Table.{rows}
use Rattle.rv_decode.proofs.Rows.{by_funct7, is_none_of, no_two_fields, none_more}
use Rattle.rv_decode.proofs.Shapes.{three}
use Rattle.rv_decode.proofs.compute.decode_op_alternate.Goals as goal

pub returns-in-0 : goal.returns-in-0
unfolding rows
returns-in-0 c =
    three (λ a b c. inst.Sub a b c) c.args.word c.rd_of-rd.result (rd c.args.word) c.rs1_of-rs1.result (rs1 c.args.word) c.rs2_of-rs2.result (rs2 c.args.word) c.rd_of-rd.ensures c.rs1_of-rs1.ensures c.rs2_of-rs2.ensures
    (by_funct7 c.args.word 51 0 32 c.requires.is_op (sym c.funct3_of.ensures ∙ c.in-0.is) c.requires.is_alternate)

pub returns-in-5 : goal.returns-in-5
unfolding rows
returns-in-5 c =
    three (λ a b c. inst.Sra a b c) c.args.word c.rd_of-rd.result (rd c.args.word) c.rs1_of-rs1.result (rs1 c.args.word) c.rs2_of-rs2.result (rs2 c.args.word) c.rd_of-rd.ensures c.rs1_of-rs1.ensures c.rs2_of-rs2.ensures
    (by_funct7 c.args.word 51 5 32 c.requires.is_op (sym c.funct3_of.ensures ∙ c.in-5.is) c.requires.is_alternate)

pub returns-in_default : goal.returns-in_default
unfolding rows
returns-in_default c =
    sym (no_two_fields 51 25 7 32 12 3 (0 ∷ 5 ∷ []) c.args.word c.requires.is_op c.requires.is_alternate (ap (is_none_of (0 ∷ 5 ∷ [])) (sym c.funct3_of.ensures) ∙ none_more c.funct3_of.result 0 (5 ∷ []) (omega arith) (none_more c.funct3_of.result 5 ([]) (omega arith) refl)))
