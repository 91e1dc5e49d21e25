use Rattle.std.proofs.Common.{sym, rules, ◌∙◌, refl, ap, arith, [], ◌∷◌}
use Rattle.rv_inst.specs.declared.instruction.Inst.TheVariants as inst
use Rattle.rv_inst.specs.Fields.{imm_j, imm_u, rd}
use Rattle.rv_inst.specs.Table.{rows}
use Rattle.rv_decode.proofs.Rows.{by_opcode, is_none_of, no_opcode, none_more}
use Rattle.rv_decode.proofs.Shapes.{one_and_imm}
use Rattle.rv_decode.proofs.decoder.decode.Goals as goal

pub returns-in-23 : goal.returns-in-23
unfolding rows
returns-in-23 c =
    one_and_imm (λ a z. inst.Auipc a z) c.args.word c.rd_of.result (rd c.args.word) c.imm_u_of.result (imm_u c.args.word) (search rules) c.rd_of.ensures c.imm_u_of.ensures
    (by_opcode c.args.word 23 (sym c.opcode_of.ensures ∙ c.in-23.is))

pub returns-in-55 : goal.returns-in-55
unfolding rows
returns-in-55 c =
    one_and_imm (λ a z. inst.Lui a z) c.args.word c.rd_of-in-55.result (rd c.args.word) c.imm_u_of-in-55.result (imm_u c.args.word) (search rules) c.rd_of-in-55.ensures c.imm_u_of-in-55.ensures
    (by_opcode c.args.word 55 (sym c.opcode_of.ensures ∙ c.in-55.is))

pub returns-in-111 : goal.returns-in-111
unfolding rows
returns-in-111 c =
    one_and_imm (λ a z. inst.Jal a z) c.args.word c.rd_of-in-111.result (rd c.args.word) c.imm_j_of.result (imm_j c.args.word) (search rules) c.rd_of-in-111.ensures c.imm_j_of.ensures
    (by_opcode c.args.word 111 (sym c.opcode_of.ensures ∙ c.in-111.is))

pub returns-in_default : goal.returns-in_default
unfolding rows
returns-in_default c =
    sym (no_opcode c.args.word (ap (is_none_of (3 ∷ 15 ∷ 19 ∷ 23 ∷ 27 ∷ 35 ∷ 47 ∷ 51 ∷ 55 ∷ 59 ∷ 99 ∷ 103 ∷ 111 ∷ 115 ∷ [])) (sym c.opcode_of.ensures) ∙ none_more c.opcode_of.result 3 (15 ∷ 19 ∷ 23 ∷ 27 ∷ 35 ∷ 47 ∷ 51 ∷ 55 ∷ 59 ∷ 99 ∷ 103 ∷ 111 ∷ 115 ∷ []) (omega arith) (none_more c.opcode_of.result 15 (19 ∷ 23 ∷ 27 ∷ 35 ∷ 47 ∷ 51 ∷ 55 ∷ 59 ∷ 99 ∷ 103 ∷ 111 ∷ 115 ∷ []) (omega arith) (none_more c.opcode_of.result 19 (23 ∷ 27 ∷ 35 ∷ 47 ∷ 51 ∷ 55 ∷ 59 ∷ 99 ∷ 103 ∷ 111 ∷ 115 ∷ []) (omega arith) (none_more c.opcode_of.result 23 (27 ∷ 35 ∷ 47 ∷ 51 ∷ 55 ∷ 59 ∷ 99 ∷ 103 ∷ 111 ∷ 115 ∷ []) (omega arith) (none_more c.opcode_of.result 27 (35 ∷ 47 ∷ 51 ∷ 55 ∷ 59 ∷ 99 ∷ 103 ∷ 111 ∷ 115 ∷ []) (omega arith) (none_more c.opcode_of.result 35 (47 ∷ 51 ∷ 55 ∷ 59 ∷ 99 ∷ 103 ∷ 111 ∷ 115 ∷ []) (omega arith) (none_more c.opcode_of.result 47 (51 ∷ 55 ∷ 59 ∷ 99 ∷ 103 ∷ 111 ∷ 115 ∷ []) (omega arith) (none_more c.opcode_of.result 51 (55 ∷ 59 ∷ 99 ∷ 103 ∷ 111 ∷ 115 ∷ []) (omega arith) (none_more c.opcode_of.result 55 (59 ∷ 99 ∷ 103 ∷ 111 ∷ 115 ∷ []) (omega arith) (none_more c.opcode_of.result 59 (99 ∷ 103 ∷ 111 ∷ 115 ∷ []) (omega arith) (none_more c.opcode_of.result 99 (103 ∷ 111 ∷ 115 ∷ []) (omega arith) (none_more c.opcode_of.result 103 (111 ∷ 115 ∷ []) (omega arith) (none_more c.opcode_of.result 111 (115 ∷ []) (omega arith) (none_more c.opcode_of.result 115 ([]) (omega arith) refl)))))))))))))))
