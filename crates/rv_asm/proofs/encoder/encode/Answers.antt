use Rattle.std.proofs.Common.{rules, Some, refl, ap, sym, ◌∙◌}
use Rattle.rv_inst.specs.declared.instruction.Inst.TheVariants as inst
use Rattle.rv_inst.specs.Table.{rows}
use Rattle.rv_decode.proofs.Laws.{by_funct3, by_funct5, by_funct6, by_funct7, by_mask, by_opcode, by_rs2}
use Rattle.rv_asm.proofs.Words.{row_r, row_i, row_s, row_b, row_u, row_j, row_shift, row_fence, row_atomic, row_reserved}
use Rattle.rv_asm.proofs.encoder.encode.Goals as goal

pub returns-in-Lui-clause-decodes : goal.returns-in-Lui-clause-decodes
unfolding rows
returns-in-Lui-clause-decodes c =
    row_u (λ a z. inst.Lui a z) c.format_u.result c.args.inst.now 55 c.in-Lui.rd c.in-Lui.imm (search rules) c.format_u.ensures.word c.in-Lui.is
    (λ w o. by_opcode w 55 o)

pub returns-in-Auipc-clause-decodes : goal.returns-in-Auipc-clause-decodes
unfolding rows
returns-in-Auipc-clause-decodes c =
    row_u (λ a z. inst.Auipc a z) c.format_u-in-Auipc.result c.args.inst.now 23 c.in-Auipc.rd c.in-Auipc.imm (search rules) c.format_u-in-Auipc.ensures.word c.in-Auipc.is
    (λ w o. by_opcode w 23 o)

pub returns-in-Jal-clause-decodes : goal.returns-in-Jal-clause-decodes
unfolding rows
returns-in-Jal-clause-decodes c =
    row_j (λ a z. inst.Jal a z) c.format_j.result c.args.inst.now 111 c.in-Jal.rd c.in-Jal.imm (search rules) c.format_j.ensures.word c.in-Jal.is
    (λ w o. by_opcode w 111 o)

pub returns-in-Jalr-clause-decodes : goal.returns-in-Jalr-clause-decodes
unfolding rows
returns-in-Jalr-clause-decodes c =
    row_i (λ a b z. inst.Jalr a b z) c.format_i.result c.args.inst.now 103 0 c.in-Jalr.rd c.in-Jalr.rs1 c.in-Jalr.imm (search rules) c.format_i.ensures.word c.in-Jalr.is
    (λ w o f. by_funct3 w 103 0 o f)

pub returns-in-Beq-clause-decodes : goal.returns-in-Beq-clause-decodes
unfolding rows
returns-in-Beq-clause-decodes c =
    row_b (λ a b z. inst.Beq a b z) c.format_b.result c.args.inst.now 99 0 c.in-Beq.rs1 c.in-Beq.rs2 c.in-Beq.imm (search rules) c.format_b.ensures.word c.in-Beq.is
    (λ w o f. by_funct3 w 99 0 o f)

pub returns-in-Bne-clause-decodes : goal.returns-in-Bne-clause-decodes
unfolding rows
returns-in-Bne-clause-decodes c =
    row_b (λ a b z. inst.Bne a b z) c.format_b-in-Bne.result c.args.inst.now 99 1 c.in-Bne.rs1 c.in-Bne.rs2 c.in-Bne.imm (search rules) c.format_b-in-Bne.ensures.word c.in-Bne.is
    (λ w o f. by_funct3 w 99 1 o f)

pub returns-in-Blt-clause-decodes : goal.returns-in-Blt-clause-decodes
unfolding rows
returns-in-Blt-clause-decodes c =
    row_b (λ a b z. inst.Blt a b z) c.format_b-in-Blt.result c.args.inst.now 99 4 c.in-Blt.rs1 c.in-Blt.rs2 c.in-Blt.imm (search rules) c.format_b-in-Blt.ensures.word c.in-Blt.is
    (λ w o f. by_funct3 w 99 4 o f)

pub returns-in-Bge-clause-decodes : goal.returns-in-Bge-clause-decodes
unfolding rows
returns-in-Bge-clause-decodes c =
    row_b (λ a b z. inst.Bge a b z) c.format_b-in-Bge.result c.args.inst.now 99 5 c.in-Bge.rs1 c.in-Bge.rs2 c.in-Bge.imm (search rules) c.format_b-in-Bge.ensures.word c.in-Bge.is
    (λ w o f. by_funct3 w 99 5 o f)

pub returns-in-Bltu-clause-decodes : goal.returns-in-Bltu-clause-decodes
unfolding rows
returns-in-Bltu-clause-decodes c =
    row_b (λ a b z. inst.Bltu a b z) c.format_b-in-Bltu.result c.args.inst.now 99 6 c.in-Bltu.rs1 c.in-Bltu.rs2 c.in-Bltu.imm (search rules) c.format_b-in-Bltu.ensures.word c.in-Bltu.is
    (λ w o f. by_funct3 w 99 6 o f)

pub returns-in-Bgeu-clause-decodes : goal.returns-in-Bgeu-clause-decodes
unfolding rows
returns-in-Bgeu-clause-decodes c =
    row_b (λ a b z. inst.Bgeu a b z) c.format_b-in-Bgeu.result c.args.inst.now 99 7 c.in-Bgeu.rs1 c.in-Bgeu.rs2 c.in-Bgeu.imm (search rules) c.format_b-in-Bgeu.ensures.word c.in-Bgeu.is
    (λ w o f. by_funct3 w 99 7 o f)

pub returns-in-Lb-clause-decodes : goal.returns-in-Lb-clause-decodes
unfolding rows
returns-in-Lb-clause-decodes c =
    row_i (λ a b z. inst.Lb a b z) c.format_i-in-Lb.result c.args.inst.now 3 0 c.in-Lb.rd c.in-Lb.rs1 c.in-Lb.imm (search rules) c.format_i-in-Lb.ensures.word c.in-Lb.is
    (λ w o f. by_funct3 w 3 0 o f)

pub returns-in-Lh-clause-decodes : goal.returns-in-Lh-clause-decodes
unfolding rows
returns-in-Lh-clause-decodes c =
    row_i (λ a b z. inst.Lh a b z) c.format_i-in-Lh.result c.args.inst.now 3 1 c.in-Lh.rd c.in-Lh.rs1 c.in-Lh.imm (search rules) c.format_i-in-Lh.ensures.word c.in-Lh.is
    (λ w o f. by_funct3 w 3 1 o f)

pub returns-in-Lw-clause-decodes : goal.returns-in-Lw-clause-decodes
unfolding rows
returns-in-Lw-clause-decodes c =
    row_i (λ a b z. inst.Lw a b z) c.format_i-in-Lw.result c.args.inst.now 3 2 c.in-Lw.rd c.in-Lw.rs1 c.in-Lw.imm (search rules) c.format_i-in-Lw.ensures.word c.in-Lw.is
    (λ w o f. by_funct3 w 3 2 o f)

pub returns-in-Ld-clause-decodes : goal.returns-in-Ld-clause-decodes
unfolding rows
returns-in-Ld-clause-decodes c =
    row_i (λ a b z. inst.Ld a b z) c.format_i-in-Ld.result c.args.inst.now 3 3 c.in-Ld.rd c.in-Ld.rs1 c.in-Ld.imm (search rules) c.format_i-in-Ld.ensures.word c.in-Ld.is
    (λ w o f. by_funct3 w 3 3 o f)

pub returns-in-Lbu-clause-decodes : goal.returns-in-Lbu-clause-decodes
unfolding rows
returns-in-Lbu-clause-decodes c =
    row_i (λ a b z. inst.Lbu a b z) c.format_i-in-Lbu.result c.args.inst.now 3 4 c.in-Lbu.rd c.in-Lbu.rs1 c.in-Lbu.imm (search rules) c.format_i-in-Lbu.ensures.word c.in-Lbu.is
    (λ w o f. by_funct3 w 3 4 o f)

pub returns-in-Lhu-clause-decodes : goal.returns-in-Lhu-clause-decodes
unfolding rows
returns-in-Lhu-clause-decodes c =
    row_i (λ a b z. inst.Lhu a b z) c.format_i-in-Lhu.result c.args.inst.now 3 5 c.in-Lhu.rd c.in-Lhu.rs1 c.in-Lhu.imm (search rules) c.format_i-in-Lhu.ensures.word c.in-Lhu.is
    (λ w o f. by_funct3 w 3 5 o f)

pub returns-in-Lwu-clause-decodes : goal.returns-in-Lwu-clause-decodes
unfolding rows
returns-in-Lwu-clause-decodes c =
    row_i (λ a b z. inst.Lwu a b z) c.format_i-in-Lwu.result c.args.inst.now 3 6 c.in-Lwu.rd c.in-Lwu.rs1 c.in-Lwu.imm (search rules) c.format_i-in-Lwu.ensures.word c.in-Lwu.is
    (λ w o f. by_funct3 w 3 6 o f)

pub returns-in-Sb-clause-decodes : goal.returns-in-Sb-clause-decodes
unfolding rows
returns-in-Sb-clause-decodes c =
    row_s (λ a b z. inst.Sb a b z) c.format_s.result c.args.inst.now 35 0 c.in-Sb.rs1 c.in-Sb.rs2 c.in-Sb.imm (search rules) c.format_s.ensures.word c.in-Sb.is
    (λ w o f. by_funct3 w 35 0 o f)

pub returns-in-Sh-clause-decodes : goal.returns-in-Sh-clause-decodes
unfolding rows
returns-in-Sh-clause-decodes c =
    row_s (λ a b z. inst.Sh a b z) c.format_s-in-Sh.result c.args.inst.now 35 1 c.in-Sh.rs1 c.in-Sh.rs2 c.in-Sh.imm (search rules) c.format_s-in-Sh.ensures.word c.in-Sh.is
    (λ w o f. by_funct3 w 35 1 o f)

pub returns-in-Sw-clause-decodes : goal.returns-in-Sw-clause-decodes
unfolding rows
returns-in-Sw-clause-decodes c =
    row_s (λ a b z. inst.Sw a b z) c.format_s-in-Sw.result c.args.inst.now 35 2 c.in-Sw.rs1 c.in-Sw.rs2 c.in-Sw.imm (search rules) c.format_s-in-Sw.ensures.word c.in-Sw.is
    (λ w o f. by_funct3 w 35 2 o f)

pub returns-in-Sd-clause-decodes : goal.returns-in-Sd-clause-decodes
unfolding rows
returns-in-Sd-clause-decodes c =
    row_s (λ a b z. inst.Sd a b z) c.format_s-in-Sd.result c.args.inst.now 35 3 c.in-Sd.rs1 c.in-Sd.rs2 c.in-Sd.imm (search rules) c.format_s-in-Sd.ensures.word c.in-Sd.is
    (λ w o f. by_funct3 w 35 3 o f)

pub returns-in-Addi-clause-decodes : goal.returns-in-Addi-clause-decodes
unfolding rows
returns-in-Addi-clause-decodes c =
    row_i (λ a b z. inst.Addi a b z) c.format_i-in-Addi.result c.args.inst.now 19 0 c.in-Addi.rd c.in-Addi.rs1 c.in-Addi.imm (search rules) c.format_i-in-Addi.ensures.word c.in-Addi.is
    (λ w o f. by_funct3 w 19 0 o f)

pub returns-in-Slti-clause-decodes : goal.returns-in-Slti-clause-decodes
unfolding rows
returns-in-Slti-clause-decodes c =
    row_i (λ a b z. inst.Slti a b z) c.format_i-in-Slti.result c.args.inst.now 19 2 c.in-Slti.rd c.in-Slti.rs1 c.in-Slti.imm (search rules) c.format_i-in-Slti.ensures.word c.in-Slti.is
    (λ w o f. by_funct3 w 19 2 o f)

pub returns-in-Sltiu-clause-decodes : goal.returns-in-Sltiu-clause-decodes
unfolding rows
returns-in-Sltiu-clause-decodes c =
    row_i (λ a b z. inst.Sltiu a b z) c.format_i-in-Sltiu.result c.args.inst.now 19 3 c.in-Sltiu.rd c.in-Sltiu.rs1 c.in-Sltiu.imm (search rules) c.format_i-in-Sltiu.ensures.word c.in-Sltiu.is
    (λ w o f. by_funct3 w 19 3 o f)

pub returns-in-Xori-clause-decodes : goal.returns-in-Xori-clause-decodes
unfolding rows
returns-in-Xori-clause-decodes c =
    row_i (λ a b z. inst.Xori a b z) c.format_i-in-Xori.result c.args.inst.now 19 4 c.in-Xori.rd c.in-Xori.rs1 c.in-Xori.imm (search rules) c.format_i-in-Xori.ensures.word c.in-Xori.is
    (λ w o f. by_funct3 w 19 4 o f)

pub returns-in-Ori-clause-decodes : goal.returns-in-Ori-clause-decodes
unfolding rows
returns-in-Ori-clause-decodes c =
    row_i (λ a b z. inst.Ori a b z) c.format_i-in-Ori.result c.args.inst.now 19 6 c.in-Ori.rd c.in-Ori.rs1 c.in-Ori.imm (search rules) c.format_i-in-Ori.ensures.word c.in-Ori.is
    (λ w o f. by_funct3 w 19 6 o f)

pub returns-in-Andi-clause-decodes : goal.returns-in-Andi-clause-decodes
unfolding rows
returns-in-Andi-clause-decodes c =
    row_i (λ a b z. inst.Andi a b z) c.format_i-in-Andi.result c.args.inst.now 19 7 c.in-Andi.rd c.in-Andi.rs1 c.in-Andi.imm (search rules) c.format_i-in-Andi.ensures.word c.in-Andi.is
    (λ w o f. by_funct3 w 19 7 o f)

pub returns-in-Slli-clause-decodes : goal.returns-in-Slli-clause-decodes
unfolding rows
returns-in-Slli-clause-decodes c =
    row_shift (λ a b d. inst.Slli a b d) c.format_shift.result c.args.inst.now 19 1 0 c.in-Slli.rd c.in-Slli.rs1 c.in-Slli.shamt c.format_shift.ensures.word c.in-Slli.is
    (λ w o f g. by_funct6 w 19 1 0 o f g)

pub returns-in-Srli-clause-decodes : goal.returns-in-Srli-clause-decodes
unfolding rows
returns-in-Srli-clause-decodes c =
    row_shift (λ a b d. inst.Srli a b d) c.format_shift-in-Srli.result c.args.inst.now 19 5 0 c.in-Srli.rd c.in-Srli.rs1 c.in-Srli.shamt c.format_shift-in-Srli.ensures.word c.in-Srli.is
    (λ w o f g. by_funct6 w 19 5 0 o f g)

pub returns-in-Srai-clause-decodes : goal.returns-in-Srai-clause-decodes
unfolding rows
returns-in-Srai-clause-decodes c =
    row_shift (λ a b d. inst.Srai a b d) c.format_shift-in-Srai.result c.args.inst.now 19 5 16 c.in-Srai.rd c.in-Srai.rs1 c.in-Srai.shamt c.format_shift-in-Srai.ensures.word c.in-Srai.is
    (λ w o f g. by_funct6 w 19 5 16 o f g)

pub returns-in-Addiw-clause-decodes : goal.returns-in-Addiw-clause-decodes
unfolding rows
returns-in-Addiw-clause-decodes c =
    row_i (λ a b z. inst.Addiw a b z) c.format_i-in-Addiw.result c.args.inst.now 27 0 c.in-Addiw.rd c.in-Addiw.rs1 c.in-Addiw.imm (search rules) c.format_i-in-Addiw.ensures.word c.in-Addiw.is
    (λ w o f. by_funct3 w 27 0 o f)

pub returns-in-Slliw-clause-decodes : goal.returns-in-Slliw-clause-decodes
unfolding rows
returns-in-Slliw-clause-decodes c =
    row_r (λ a b d. inst.Slliw a b d) c.format_r.result c.args.inst.now 27 1 0 c.in-Slliw.rd c.in-Slliw.rs1 c.in-Slliw.shamt c.format_r.ensures.word c.in-Slliw.is
    (λ w o f g. by_funct7 w 27 1 0 o f g)

pub returns-in-Srliw-clause-decodes : goal.returns-in-Srliw-clause-decodes
unfolding rows
returns-in-Srliw-clause-decodes c =
    row_r (λ a b d. inst.Srliw a b d) c.format_r-in-Srliw.result c.args.inst.now 27 5 0 c.in-Srliw.rd c.in-Srliw.rs1 c.in-Srliw.shamt c.format_r-in-Srliw.ensures.word c.in-Srliw.is
    (λ w o f g. by_funct7 w 27 5 0 o f g)

pub returns-in-Sraiw-clause-decodes : goal.returns-in-Sraiw-clause-decodes
unfolding rows
returns-in-Sraiw-clause-decodes c =
    row_r (λ a b d. inst.Sraiw a b d) c.format_r-in-Sraiw.result c.args.inst.now 27 5 32 c.in-Sraiw.rd c.in-Sraiw.rs1 c.in-Sraiw.shamt c.format_r-in-Sraiw.ensures.word c.in-Sraiw.is
    (λ w o f g. by_funct7 w 27 5 32 o f g)

pub returns-in-Add-clause-decodes : goal.returns-in-Add-clause-decodes
unfolding rows
returns-in-Add-clause-decodes c =
    row_r (λ a b d. inst.Add a b d) c.format_r-in-Add.result c.args.inst.now 51 0 0 c.in-Add.rd c.in-Add.rs1 c.in-Add.rs2 c.format_r-in-Add.ensures.word c.in-Add.is
    (λ w o f g. by_funct7 w 51 0 0 o f g)

pub returns-in-Sub-clause-decodes : goal.returns-in-Sub-clause-decodes
unfolding rows
returns-in-Sub-clause-decodes c =
    row_r (λ a b d. inst.Sub a b d) c.format_r-in-Sub.result c.args.inst.now 51 0 32 c.in-Sub.rd c.in-Sub.rs1 c.in-Sub.rs2 c.format_r-in-Sub.ensures.word c.in-Sub.is
    (λ w o f g. by_funct7 w 51 0 32 o f g)

pub returns-in-Sll-clause-decodes : goal.returns-in-Sll-clause-decodes
unfolding rows
returns-in-Sll-clause-decodes c =
    row_r (λ a b d. inst.Sll a b d) c.format_r-in-Sll.result c.args.inst.now 51 1 0 c.in-Sll.rd c.in-Sll.rs1 c.in-Sll.rs2 c.format_r-in-Sll.ensures.word c.in-Sll.is
    (λ w o f g. by_funct7 w 51 1 0 o f g)

pub returns-in-Slt-clause-decodes : goal.returns-in-Slt-clause-decodes
unfolding rows
returns-in-Slt-clause-decodes c =
    row_r (λ a b d. inst.Slt a b d) c.format_r-in-Slt.result c.args.inst.now 51 2 0 c.in-Slt.rd c.in-Slt.rs1 c.in-Slt.rs2 c.format_r-in-Slt.ensures.word c.in-Slt.is
    (λ w o f g. by_funct7 w 51 2 0 o f g)

pub returns-in-Sltu-clause-decodes : goal.returns-in-Sltu-clause-decodes
unfolding rows
returns-in-Sltu-clause-decodes c =
    row_r (λ a b d. inst.Sltu a b d) c.format_r-in-Sltu.result c.args.inst.now 51 3 0 c.in-Sltu.rd c.in-Sltu.rs1 c.in-Sltu.rs2 c.format_r-in-Sltu.ensures.word c.in-Sltu.is
    (λ w o f g. by_funct7 w 51 3 0 o f g)

pub returns-in-Xor-clause-decodes : goal.returns-in-Xor-clause-decodes
unfolding rows
returns-in-Xor-clause-decodes c =
    row_r (λ a b d. inst.Xor a b d) c.format_r-in-Xor.result c.args.inst.now 51 4 0 c.in-Xor.rd c.in-Xor.rs1 c.in-Xor.rs2 c.format_r-in-Xor.ensures.word c.in-Xor.is
    (λ w o f g. by_funct7 w 51 4 0 o f g)

pub returns-in-Srl-clause-decodes : goal.returns-in-Srl-clause-decodes
unfolding rows
returns-in-Srl-clause-decodes c =
    row_r (λ a b d. inst.Srl a b d) c.format_r-in-Srl.result c.args.inst.now 51 5 0 c.in-Srl.rd c.in-Srl.rs1 c.in-Srl.rs2 c.format_r-in-Srl.ensures.word c.in-Srl.is
    (λ w o f g. by_funct7 w 51 5 0 o f g)

pub returns-in-Sra-clause-decodes : goal.returns-in-Sra-clause-decodes
unfolding rows
returns-in-Sra-clause-decodes c =
    row_r (λ a b d. inst.Sra a b d) c.format_r-in-Sra.result c.args.inst.now 51 5 32 c.in-Sra.rd c.in-Sra.rs1 c.in-Sra.rs2 c.format_r-in-Sra.ensures.word c.in-Sra.is
    (λ w o f g. by_funct7 w 51 5 32 o f g)

pub returns-in-Or-clause-decodes : goal.returns-in-Or-clause-decodes
unfolding rows
returns-in-Or-clause-decodes c =
    row_r (λ a b d. inst.Or a b d) c.format_r-in-Or.result c.args.inst.now 51 6 0 c.in-Or.rd c.in-Or.rs1 c.in-Or.rs2 c.format_r-in-Or.ensures.word c.in-Or.is
    (λ w o f g. by_funct7 w 51 6 0 o f g)

pub returns-in-And-clause-decodes : goal.returns-in-And-clause-decodes
unfolding rows
returns-in-And-clause-decodes c =
    row_r (λ a b d. inst.And a b d) c.format_r-in-And.result c.args.inst.now 51 7 0 c.in-And.rd c.in-And.rs1 c.in-And.rs2 c.format_r-in-And.ensures.word c.in-And.is
    (λ w o f g. by_funct7 w 51 7 0 o f g)

pub returns-in-Mul-clause-decodes : goal.returns-in-Mul-clause-decodes
unfolding rows
returns-in-Mul-clause-decodes c =
    row_r (λ a b d. inst.Mul a b d) c.format_r-in-Mul.result c.args.inst.now 51 0 1 c.in-Mul.rd c.in-Mul.rs1 c.in-Mul.rs2 c.format_r-in-Mul.ensures.word c.in-Mul.is
    (λ w o f g. by_funct7 w 51 0 1 o f g)

pub returns-in-Mulh-clause-decodes : goal.returns-in-Mulh-clause-decodes
unfolding rows
returns-in-Mulh-clause-decodes c =
    row_r (λ a b d. inst.Mulh a b d) c.format_r-in-Mulh.result c.args.inst.now 51 1 1 c.in-Mulh.rd c.in-Mulh.rs1 c.in-Mulh.rs2 c.format_r-in-Mulh.ensures.word c.in-Mulh.is
    (λ w o f g. by_funct7 w 51 1 1 o f g)

pub returns-in-Mulhsu-clause-decodes : goal.returns-in-Mulhsu-clause-decodes
unfolding rows
returns-in-Mulhsu-clause-decodes c =
    row_r (λ a b d. inst.Mulhsu a b d) c.format_r-in-Mulhsu.result c.args.inst.now 51 2 1 c.in-Mulhsu.rd c.in-Mulhsu.rs1 c.in-Mulhsu.rs2 c.format_r-in-Mulhsu.ensures.word c.in-Mulhsu.is
    (λ w o f g. by_funct7 w 51 2 1 o f g)

pub returns-in-Mulhu-clause-decodes : goal.returns-in-Mulhu-clause-decodes
unfolding rows
returns-in-Mulhu-clause-decodes c =
    row_r (λ a b d. inst.Mulhu a b d) c.format_r-in-Mulhu.result c.args.inst.now 51 3 1 c.in-Mulhu.rd c.in-Mulhu.rs1 c.in-Mulhu.rs2 c.format_r-in-Mulhu.ensures.word c.in-Mulhu.is
    (λ w o f g. by_funct7 w 51 3 1 o f g)

pub returns-in-Div-clause-decodes : goal.returns-in-Div-clause-decodes
unfolding rows
returns-in-Div-clause-decodes c =
    row_r (λ a b d. inst.Div a b d) c.format_r-in-Div.result c.args.inst.now 51 4 1 c.in-Div.rd c.in-Div.rs1 c.in-Div.rs2 c.format_r-in-Div.ensures.word c.in-Div.is
    (λ w o f g. by_funct7 w 51 4 1 o f g)

pub returns-in-Divu-clause-decodes : goal.returns-in-Divu-clause-decodes
unfolding rows
returns-in-Divu-clause-decodes c =
    row_r (λ a b d. inst.Divu a b d) c.format_r-in-Divu.result c.args.inst.now 51 5 1 c.in-Divu.rd c.in-Divu.rs1 c.in-Divu.rs2 c.format_r-in-Divu.ensures.word c.in-Divu.is
    (λ w o f g. by_funct7 w 51 5 1 o f g)

pub returns-in-Rem-clause-decodes : goal.returns-in-Rem-clause-decodes
unfolding rows
returns-in-Rem-clause-decodes c =
    row_r (λ a b d. inst.Rem a b d) c.format_r-in-Rem.result c.args.inst.now 51 6 1 c.in-Rem.rd c.in-Rem.rs1 c.in-Rem.rs2 c.format_r-in-Rem.ensures.word c.in-Rem.is
    (λ w o f g. by_funct7 w 51 6 1 o f g)

pub returns-in-Remu-clause-decodes : goal.returns-in-Remu-clause-decodes
unfolding rows
returns-in-Remu-clause-decodes c =
    row_r (λ a b d. inst.Remu a b d) c.format_r-in-Remu.result c.args.inst.now 51 7 1 c.in-Remu.rd c.in-Remu.rs1 c.in-Remu.rs2 c.format_r-in-Remu.ensures.word c.in-Remu.is
    (λ w o f g. by_funct7 w 51 7 1 o f g)

pub returns-in-Addw-clause-decodes : goal.returns-in-Addw-clause-decodes
unfolding rows
returns-in-Addw-clause-decodes c =
    row_r (λ a b d. inst.Addw a b d) c.format_r-in-Addw.result c.args.inst.now 59 0 0 c.in-Addw.rd c.in-Addw.rs1 c.in-Addw.rs2 c.format_r-in-Addw.ensures.word c.in-Addw.is
    (λ w o f g. by_funct7 w 59 0 0 o f g)

pub returns-in-Subw-clause-decodes : goal.returns-in-Subw-clause-decodes
unfolding rows
returns-in-Subw-clause-decodes c =
    row_r (λ a b d. inst.Subw a b d) c.format_r-in-Subw.result c.args.inst.now 59 0 32 c.in-Subw.rd c.in-Subw.rs1 c.in-Subw.rs2 c.format_r-in-Subw.ensures.word c.in-Subw.is
    (λ w o f g. by_funct7 w 59 0 32 o f g)

pub returns-in-Sllw-clause-decodes : goal.returns-in-Sllw-clause-decodes
unfolding rows
returns-in-Sllw-clause-decodes c =
    row_r (λ a b d. inst.Sllw a b d) c.format_r-in-Sllw.result c.args.inst.now 59 1 0 c.in-Sllw.rd c.in-Sllw.rs1 c.in-Sllw.rs2 c.format_r-in-Sllw.ensures.word c.in-Sllw.is
    (λ w o f g. by_funct7 w 59 1 0 o f g)

pub returns-in-Srlw-clause-decodes : goal.returns-in-Srlw-clause-decodes
unfolding rows
returns-in-Srlw-clause-decodes c =
    row_r (λ a b d. inst.Srlw a b d) c.format_r-in-Srlw.result c.args.inst.now 59 5 0 c.in-Srlw.rd c.in-Srlw.rs1 c.in-Srlw.rs2 c.format_r-in-Srlw.ensures.word c.in-Srlw.is
    (λ w o f g. by_funct7 w 59 5 0 o f g)

pub returns-in-Sraw-clause-decodes : goal.returns-in-Sraw-clause-decodes
unfolding rows
returns-in-Sraw-clause-decodes c =
    row_r (λ a b d. inst.Sraw a b d) c.format_r-in-Sraw.result c.args.inst.now 59 5 32 c.in-Sraw.rd c.in-Sraw.rs1 c.in-Sraw.rs2 c.format_r-in-Sraw.ensures.word c.in-Sraw.is
    (λ w o f g. by_funct7 w 59 5 32 o f g)

pub returns-in-Mulw-clause-decodes : goal.returns-in-Mulw-clause-decodes
unfolding rows
returns-in-Mulw-clause-decodes c =
    row_r (λ a b d. inst.Mulw a b d) c.format_r-in-Mulw.result c.args.inst.now 59 0 1 c.in-Mulw.rd c.in-Mulw.rs1 c.in-Mulw.rs2 c.format_r-in-Mulw.ensures.word c.in-Mulw.is
    (λ w o f g. by_funct7 w 59 0 1 o f g)

pub returns-in-Divw-clause-decodes : goal.returns-in-Divw-clause-decodes
unfolding rows
returns-in-Divw-clause-decodes c =
    row_r (λ a b d. inst.Divw a b d) c.format_r-in-Divw.result c.args.inst.now 59 4 1 c.in-Divw.rd c.in-Divw.rs1 c.in-Divw.rs2 c.format_r-in-Divw.ensures.word c.in-Divw.is
    (λ w o f g. by_funct7 w 59 4 1 o f g)

pub returns-in-Divuw-clause-decodes : goal.returns-in-Divuw-clause-decodes
unfolding rows
returns-in-Divuw-clause-decodes c =
    row_r (λ a b d. inst.Divuw a b d) c.format_r-in-Divuw.result c.args.inst.now 59 5 1 c.in-Divuw.rd c.in-Divuw.rs1 c.in-Divuw.rs2 c.format_r-in-Divuw.ensures.word c.in-Divuw.is
    (λ w o f g. by_funct7 w 59 5 1 o f g)

pub returns-in-Remw-clause-decodes : goal.returns-in-Remw-clause-decodes
unfolding rows
returns-in-Remw-clause-decodes c =
    row_r (λ a b d. inst.Remw a b d) c.format_r-in-Remw.result c.args.inst.now 59 6 1 c.in-Remw.rd c.in-Remw.rs1 c.in-Remw.rs2 c.format_r-in-Remw.ensures.word c.in-Remw.is
    (λ w o f g. by_funct7 w 59 6 1 o f g)

pub returns-in-Remuw-clause-decodes : goal.returns-in-Remuw-clause-decodes
unfolding rows
returns-in-Remuw-clause-decodes c =
    row_r (λ a b d. inst.Remuw a b d) c.format_r-in-Remuw.result c.args.inst.now 59 7 1 c.in-Remuw.rd c.in-Remuw.rs1 c.in-Remuw.rs2 c.format_r-in-Remuw.ensures.word c.in-Remuw.is
    (λ w o f g. by_funct7 w 59 7 1 o f g)

pub returns-in-Fence-clause-decodes : goal.returns-in-Fence-clause-decodes
unfolding rows
returns-in-Fence-clause-decodes c =
    row_fence (λ a b d. inst.Fence a b d) c.format_fence.result c.args.inst.now c.in-Fence.fm c.in-Fence.pred c.in-Fence.succ c.format_fence.ensures.word c.in-Fence.is
    (λ w o f. by_funct3 w 15 0 o f)

pub returns-in-FenceI-clause-decodes : goal.returns-in-FenceI-clause-decodes
unfolding rows
returns-in-FenceI-clause-decodes c =
    by_mask 4111 0xffffffff 4111 refl ∙ ap Some (sym c.in-FenceI.is)

pub returns-in-LrW-clause-decodes : goal.returns-in-LrW-clause-decodes
unfolding rows
returns-in-LrW-clause-decodes c =
    row_reserved (λ a b. inst.LrW a b) c.format_atomic.result c.args.inst.now 2 2 c.in-LrW.rd c.in-LrW.rs1 c.format_atomic.ensures.word c.in-LrW.is
    (λ w o f g h. by_rs2 w 47 2 2 0 o f g h)

pub returns-in-ScW-clause-decodes : goal.returns-in-ScW-clause-decodes
unfolding rows
returns-in-ScW-clause-decodes c =
    row_atomic (λ a b d. inst.ScW a b d) c.format_atomic-in-ScW.result c.args.inst.now 2 3 c.in-ScW.rd c.in-ScW.rs1 c.in-ScW.rs2 c.format_atomic-in-ScW.ensures.word c.in-ScW.is
    (λ w o f g. by_funct5 w 47 2 3 o f g)

pub returns-in-AmoSwapW-clause-decodes : goal.returns-in-AmoSwapW-clause-decodes
unfolding rows
returns-in-AmoSwapW-clause-decodes c =
    row_atomic (λ a b d. inst.AmoSwapW a b d) c.format_atomic-in-AmoSwapW.result c.args.inst.now 2 1 c.in-AmoSwapW.rd c.in-AmoSwapW.rs1 c.in-AmoSwapW.rs2 c.format_atomic-in-AmoSwapW.ensures.word c.in-AmoSwapW.is
    (λ w o f g. by_funct5 w 47 2 1 o f g)

pub returns-in-AmoAddW-clause-decodes : goal.returns-in-AmoAddW-clause-decodes
unfolding rows
returns-in-AmoAddW-clause-decodes c =
    row_atomic (λ a b d. inst.AmoAddW a b d) c.format_atomic-in-AmoAddW.result c.args.inst.now 2 0 c.in-AmoAddW.rd c.in-AmoAddW.rs1 c.in-AmoAddW.rs2 c.format_atomic-in-AmoAddW.ensures.word c.in-AmoAddW.is
    (λ w o f g. by_funct5 w 47 2 0 o f g)

pub returns-in-AmoXorW-clause-decodes : goal.returns-in-AmoXorW-clause-decodes
unfolding rows
returns-in-AmoXorW-clause-decodes c =
    row_atomic (λ a b d. inst.AmoXorW a b d) c.format_atomic-in-AmoXorW.result c.args.inst.now 2 4 c.in-AmoXorW.rd c.in-AmoXorW.rs1 c.in-AmoXorW.rs2 c.format_atomic-in-AmoXorW.ensures.word c.in-AmoXorW.is
    (λ w o f g. by_funct5 w 47 2 4 o f g)

pub returns-in-AmoAndW-clause-decodes : goal.returns-in-AmoAndW-clause-decodes
unfolding rows
returns-in-AmoAndW-clause-decodes c =
    row_atomic (λ a b d. inst.AmoAndW a b d) c.format_atomic-in-AmoAndW.result c.args.inst.now 2 12 c.in-AmoAndW.rd c.in-AmoAndW.rs1 c.in-AmoAndW.rs2 c.format_atomic-in-AmoAndW.ensures.word c.in-AmoAndW.is
    (λ w o f g. by_funct5 w 47 2 12 o f g)

pub returns-in-AmoOrW-clause-decodes : goal.returns-in-AmoOrW-clause-decodes
unfolding rows
returns-in-AmoOrW-clause-decodes c =
    row_atomic (λ a b d. inst.AmoOrW a b d) c.format_atomic-in-AmoOrW.result c.args.inst.now 2 8 c.in-AmoOrW.rd c.in-AmoOrW.rs1 c.in-AmoOrW.rs2 c.format_atomic-in-AmoOrW.ensures.word c.in-AmoOrW.is
    (λ w o f g. by_funct5 w 47 2 8 o f g)

pub returns-in-AmoMinW-clause-decodes : goal.returns-in-AmoMinW-clause-decodes
unfolding rows
returns-in-AmoMinW-clause-decodes c =
    row_atomic (λ a b d. inst.AmoMinW a b d) c.format_atomic-in-AmoMinW.result c.args.inst.now 2 16 c.in-AmoMinW.rd c.in-AmoMinW.rs1 c.in-AmoMinW.rs2 c.format_atomic-in-AmoMinW.ensures.word c.in-AmoMinW.is
    (λ w o f g. by_funct5 w 47 2 16 o f g)

pub returns-in-AmoMaxW-clause-decodes : goal.returns-in-AmoMaxW-clause-decodes
unfolding rows
returns-in-AmoMaxW-clause-decodes c =
    row_atomic (λ a b d. inst.AmoMaxW a b d) c.format_atomic-in-AmoMaxW.result c.args.inst.now 2 20 c.in-AmoMaxW.rd c.in-AmoMaxW.rs1 c.in-AmoMaxW.rs2 c.format_atomic-in-AmoMaxW.ensures.word c.in-AmoMaxW.is
    (λ w o f g. by_funct5 w 47 2 20 o f g)

pub returns-in-AmoMinuW-clause-decodes : goal.returns-in-AmoMinuW-clause-decodes
unfolding rows
returns-in-AmoMinuW-clause-decodes c =
    row_atomic (λ a b d. inst.AmoMinuW a b d) c.format_atomic-in-AmoMinuW.result c.args.inst.now 2 24 c.in-AmoMinuW.rd c.in-AmoMinuW.rs1 c.in-AmoMinuW.rs2 c.format_atomic-in-AmoMinuW.ensures.word c.in-AmoMinuW.is
    (λ w o f g. by_funct5 w 47 2 24 o f g)

pub returns-in-AmoMaxuW-clause-decodes : goal.returns-in-AmoMaxuW-clause-decodes
unfolding rows
returns-in-AmoMaxuW-clause-decodes c =
    row_atomic (λ a b d. inst.AmoMaxuW a b d) c.format_atomic-in-AmoMaxuW.result c.args.inst.now 2 28 c.in-AmoMaxuW.rd c.in-AmoMaxuW.rs1 c.in-AmoMaxuW.rs2 c.format_atomic-in-AmoMaxuW.ensures.word c.in-AmoMaxuW.is
    (λ w o f g. by_funct5 w 47 2 28 o f g)

pub returns-in-LrD-clause-decodes : goal.returns-in-LrD-clause-decodes
unfolding rows
returns-in-LrD-clause-decodes c =
    row_reserved (λ a b. inst.LrD a b) c.format_atomic-in-LrD.result c.args.inst.now 3 2 c.in-LrD.rd c.in-LrD.rs1 c.format_atomic-in-LrD.ensures.word c.in-LrD.is
    (λ w o f g h. by_rs2 w 47 3 2 0 o f g h)

pub returns-in-ScD-clause-decodes : goal.returns-in-ScD-clause-decodes
unfolding rows
returns-in-ScD-clause-decodes c =
    row_atomic (λ a b d. inst.ScD a b d) c.format_atomic-in-ScD.result c.args.inst.now 3 3 c.in-ScD.rd c.in-ScD.rs1 c.in-ScD.rs2 c.format_atomic-in-ScD.ensures.word c.in-ScD.is
    (λ w o f g. by_funct5 w 47 3 3 o f g)

pub returns-in-AmoSwapD-clause-decodes : goal.returns-in-AmoSwapD-clause-decodes
unfolding rows
returns-in-AmoSwapD-clause-decodes c =
    row_atomic (λ a b d. inst.AmoSwapD a b d) c.format_atomic-in-AmoSwapD.result c.args.inst.now 3 1 c.in-AmoSwapD.rd c.in-AmoSwapD.rs1 c.in-AmoSwapD.rs2 c.format_atomic-in-AmoSwapD.ensures.word c.in-AmoSwapD.is
    (λ w o f g. by_funct5 w 47 3 1 o f g)

pub returns-in-AmoAddD-clause-decodes : goal.returns-in-AmoAddD-clause-decodes
unfolding rows
returns-in-AmoAddD-clause-decodes c =
    row_atomic (λ a b d. inst.AmoAddD a b d) c.format_atomic-in-AmoAddD.result c.args.inst.now 3 0 c.in-AmoAddD.rd c.in-AmoAddD.rs1 c.in-AmoAddD.rs2 c.format_atomic-in-AmoAddD.ensures.word c.in-AmoAddD.is
    (λ w o f g. by_funct5 w 47 3 0 o f g)

pub returns-in-AmoXorD-clause-decodes : goal.returns-in-AmoXorD-clause-decodes
unfolding rows
returns-in-AmoXorD-clause-decodes c =
    row_atomic (λ a b d. inst.AmoXorD a b d) c.format_atomic-in-AmoXorD.result c.args.inst.now 3 4 c.in-AmoXorD.rd c.in-AmoXorD.rs1 c.in-AmoXorD.rs2 c.format_atomic-in-AmoXorD.ensures.word c.in-AmoXorD.is
    (λ w o f g. by_funct5 w 47 3 4 o f g)

pub returns-in-AmoAndD-clause-decodes : goal.returns-in-AmoAndD-clause-decodes
unfolding rows
returns-in-AmoAndD-clause-decodes c =
    row_atomic (λ a b d. inst.AmoAndD a b d) c.format_atomic-in-AmoAndD.result c.args.inst.now 3 12 c.in-AmoAndD.rd c.in-AmoAndD.rs1 c.in-AmoAndD.rs2 c.format_atomic-in-AmoAndD.ensures.word c.in-AmoAndD.is
    (λ w o f g. by_funct5 w 47 3 12 o f g)

pub returns-in-AmoOrD-clause-decodes : goal.returns-in-AmoOrD-clause-decodes
unfolding rows
returns-in-AmoOrD-clause-decodes c =
    row_atomic (λ a b d. inst.AmoOrD a b d) c.format_atomic-in-AmoOrD.result c.args.inst.now 3 8 c.in-AmoOrD.rd c.in-AmoOrD.rs1 c.in-AmoOrD.rs2 c.format_atomic-in-AmoOrD.ensures.word c.in-AmoOrD.is
    (λ w o f g. by_funct5 w 47 3 8 o f g)

pub returns-in-AmoMinD-clause-decodes : goal.returns-in-AmoMinD-clause-decodes
unfolding rows
returns-in-AmoMinD-clause-decodes c =
    row_atomic (λ a b d. inst.AmoMinD a b d) c.format_atomic-in-AmoMinD.result c.args.inst.now 3 16 c.in-AmoMinD.rd c.in-AmoMinD.rs1 c.in-AmoMinD.rs2 c.format_atomic-in-AmoMinD.ensures.word c.in-AmoMinD.is
    (λ w o f g. by_funct5 w 47 3 16 o f g)

pub returns-in-AmoMaxD-clause-decodes : goal.returns-in-AmoMaxD-clause-decodes
unfolding rows
returns-in-AmoMaxD-clause-decodes c =
    row_atomic (λ a b d. inst.AmoMaxD a b d) c.format_atomic-in-AmoMaxD.result c.args.inst.now 3 20 c.in-AmoMaxD.rd c.in-AmoMaxD.rs1 c.in-AmoMaxD.rs2 c.format_atomic-in-AmoMaxD.ensures.word c.in-AmoMaxD.is
    (λ w o f g. by_funct5 w 47 3 20 o f g)

pub returns-in-AmoMinuD-clause-decodes : goal.returns-in-AmoMinuD-clause-decodes
unfolding rows
returns-in-AmoMinuD-clause-decodes c =
    row_atomic (λ a b d. inst.AmoMinuD a b d) c.format_atomic-in-AmoMinuD.result c.args.inst.now 3 24 c.in-AmoMinuD.rd c.in-AmoMinuD.rs1 c.in-AmoMinuD.rs2 c.format_atomic-in-AmoMinuD.ensures.word c.in-AmoMinuD.is
    (λ w o f g. by_funct5 w 47 3 24 o f g)

pub returns-in-AmoMaxuD-clause-decodes : goal.returns-in-AmoMaxuD-clause-decodes
unfolding rows
returns-in-AmoMaxuD-clause-decodes c =
    row_atomic (λ a b d. inst.AmoMaxuD a b d) c.format_atomic-in-AmoMaxuD.result c.args.inst.now 3 28 c.in-AmoMaxuD.rd c.in-AmoMaxuD.rs1 c.in-AmoMaxuD.rs2 c.format_atomic-in-AmoMaxuD.ensures.word c.in-AmoMaxuD.is
    (λ w o f g. by_funct5 w 47 3 28 o f g)

pub returns-in-Ecall-clause-decodes : goal.returns-in-Ecall-clause-decodes
unfolding rows
returns-in-Ecall-clause-decodes c =
    by_mask 115 0xffffffff 115 refl ∙ ap Some (sym c.in-Ecall.is)

pub returns-in-Ebreak-clause-decodes : goal.returns-in-Ebreak-clause-decodes
unfolding rows
returns-in-Ebreak-clause-decodes c =
    by_mask 1048691 0xffffffff 1048691 refl ∙ ap Some (sym c.in-Ebreak.is)
