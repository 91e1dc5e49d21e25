use Rattle.std.proofs.Common.{sym, ◌∙◌, refl, ap, arith, [], ◌∷◌}
use Rattle.rv_inst.specs.declared.instruction.Inst.TheVariants as inst
use Rattle.rv_inst.specs.Fields.{rd, rs1, rs2}
use Rattle.rv_inst.specs.Table.{rows}
use Rattle.rv_decode.proofs.Rows.{by_funct7, is_none_of, no_two_fields, none_more}
use Rattle.rv_decode.proofs.Shapes.{three}
use Rattle.rv_decode.proofs.compute.decode_op_base.Goals as goal

pub returns-in-0 : goal.returns-in-0
unfolding rows
returns-in-0 c =
    three (λ a b c. inst.Add a b c) c.args.word c.rd_of-rd.result (rd c.args.word) c.rs1_of-rs1.result (rs1 c.args.word) c.rs2_of-rs2.result (rs2 c.args.word) c.rd_of-rd.ensures c.rs1_of-rs1.ensures c.rs2_of-rs2.ensures
    (by_funct7 c.args.word 51 0 0 c.requires.is_op (sym c.funct3_of.ensures ∙ c.in-0.is) c.requires.is_base)

pub returns-in-1 : goal.returns-in-1
unfolding rows
returns-in-1 c =
    three (λ a b c. inst.Sll a b c) c.args.word c.rd_of-rd.result (rd c.args.word) c.rs1_of-rs1.result (rs1 c.args.word) c.rs2_of-rs2.result (rs2 c.args.word) c.rd_of-rd.ensures c.rs1_of-rs1.ensures c.rs2_of-rs2.ensures
    (by_funct7 c.args.word 51 1 0 c.requires.is_op (sym c.funct3_of.ensures ∙ c.in-1.is) c.requires.is_base)

pub returns-in-2 : goal.returns-in-2
unfolding rows
returns-in-2 c =
    three (λ a b c. inst.Slt a b c) c.args.word c.rd_of-rd.result (rd c.args.word) c.rs1_of-rs1.result (rs1 c.args.word) c.rs2_of-rs2.result (rs2 c.args.word) c.rd_of-rd.ensures c.rs1_of-rs1.ensures c.rs2_of-rs2.ensures
    (by_funct7 c.args.word 51 2 0 c.requires.is_op (sym c.funct3_of.ensures ∙ c.in-2.is) c.requires.is_base)

pub returns-in-3 : goal.returns-in-3
unfolding rows
returns-in-3 c =
    three (λ a b c. inst.Sltu a b c) c.args.word c.rd_of-rd.result (rd c.args.word) c.rs1_of-rs1.result (rs1 c.args.word) c.rs2_of-rs2.result (rs2 c.args.word) c.rd_of-rd.ensures c.rs1_of-rs1.ensures c.rs2_of-rs2.ensures
    (by_funct7 c.args.word 51 3 0 c.requires.is_op (sym c.funct3_of.ensures ∙ c.in-3.is) c.requires.is_base)

pub returns-in-4 : goal.returns-in-4
unfolding rows
returns-in-4 c =
    three (λ a b c. inst.Xor a b c) c.args.word c.rd_of-rd.result (rd c.args.word) c.rs1_of-rs1.result (rs1 c.args.word) c.rs2_of-rs2.result (rs2 c.args.word) c.rd_of-rd.ensures c.rs1_of-rs1.ensures c.rs2_of-rs2.ensures
    (by_funct7 c.args.word 51 4 0 c.requires.is_op (sym c.funct3_of.ensures ∙ c.in-4.is) c.requires.is_base)

pub returns-in-5 : goal.returns-in-5
unfolding rows
returns-in-5 c =
    three (λ a b c. inst.Srl a b c) c.args.word c.rd_of-rd.result (rd c.args.word) c.rs1_of-rs1.result (rs1 c.args.word) c.rs2_of-rs2.result (rs2 c.args.word) c.rd_of-rd.ensures c.rs1_of-rs1.ensures c.rs2_of-rs2.ensures
    (by_funct7 c.args.word 51 5 0 c.requires.is_op (sym c.funct3_of.ensures ∙ c.in-5.is) c.requires.is_base)

pub returns-in-6 : goal.returns-in-6
unfolding rows
returns-in-6 c =
    three (λ a b c. inst.Or a b c) c.args.word c.rd_of-rd.result (rd c.args.word) c.rs1_of-rs1.result (rs1 c.args.word) c.rs2_of-rs2.result (rs2 c.args.word) c.rd_of-rd.ensures c.rs1_of-rs1.ensures c.rs2_of-rs2.ensures
    (by_funct7 c.args.word 51 6 0 c.requires.is_op (sym c.funct3_of.ensures ∙ c.in-6.is) c.requires.is_base)

pub returns-in-7 : goal.returns-in-7
unfolding rows
returns-in-7 c =
    three (λ a b c. inst.And a b c) c.args.word c.rd_of-rd.result (rd c.args.word) c.rs1_of-rs1.result (rs1 c.args.word) c.rs2_of-rs2.result (rs2 c.args.word) c.rd_of-rd.ensures c.rs1_of-rs1.ensures c.rs2_of-rs2.ensures
    (by_funct7 c.args.word 51 7 0 c.requires.is_op (sym c.funct3_of.ensures ∙ c.in-7.is) c.requires.is_base)

pub returns-in_default : goal.returns-in_default
unfolding rows
returns-in_default c =
    sym (no_two_fields 51 25 7 0 12 3 (0 ∷ 1 ∷ 2 ∷ 3 ∷ 4 ∷ 5 ∷ 6 ∷ 7 ∷ []) c.args.word c.requires.is_op c.requires.is_base (ap (is_none_of (0 ∷ 1 ∷ 2 ∷ 3 ∷ 4 ∷ 5 ∷ 6 ∷ 7 ∷ [])) (sym c.funct3_of.ensures) ∙ none_more c.funct3_of.result 0 (1 ∷ 2 ∷ 3 ∷ 4 ∷ 5 ∷ 6 ∷ 7 ∷ []) (omega arith) (none_more c.funct3_of.result 1 (2 ∷ 3 ∷ 4 ∷ 5 ∷ 6 ∷ 7 ∷ []) (omega arith) (none_more c.funct3_of.result 2 (3 ∷ 4 ∷ 5 ∷ 6 ∷ 7 ∷ []) (omega arith) (none_more c.funct3_of.result 3 (4 ∷ 5 ∷ 6 ∷ 7 ∷ []) (omega arith) (none_more c.funct3_of.result 4 (5 ∷ 6 ∷ 7 ∷ []) (omega arith) (none_more c.funct3_of.result 5 (6 ∷ 7 ∷ []) (omega arith) (none_more c.funct3_of.result 6 (7 ∷ []) (omega arith) (none_more c.funct3_of.result 7 ([]) (omega arith) refl)))))))))
