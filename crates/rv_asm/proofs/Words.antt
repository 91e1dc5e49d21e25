-- A word of a format is a word of the row that has this format and these selectors.
use Rattle.std.proofs.Common.{◌≡◌, ℕ, Option, Some, None, IfSome, ℤ, FitsSigned, to_z, of_z, w64, ap, sym, ◌∙◌}
use Rattle.std.proofs.lemmas.Int.{to_z-of_z}
use Rattle.rv_inst.specs.declared.instruction.Inst.{Inst}
use Rattle.rv_inst.specs.Fields.{rd, rs1, rs2, shamt, imm_i, imm_s, imm_b, imm_u, imm_j, fence_mode, predecessors, successors}
use Rattle.rv_inst.specs.Table.{row_of}
use Rattle.rv_decode.specs.Selectors.{opcode, funct3, funct5, funct6, funct7}
use Rattle.rv_asm.specs.Formats.{IsLaidOut, IsFormatI, IsFormatS, IsFormatB, IsFormatU, IsFormatJ, IsShift, IsFence, IsAtomic}

-- an instruction made of equal parts
same_3 : (make : ℕ → ℕ → ℕ → Inst) (a a' b b' c c' : ℕ) → a ≡ a' → b ≡ b' → c ≡ c' → Some (make a b c) ≡ Some (make a' b' c')
same_3 make a a' b b' c c' e f g = ap (λ n. Some (make n b c)) e ∙ ap (λ n. Some (make a' n c)) f ∙ ap (λ n. Some (make a' b' n)) g

same_2_imm : (make : ℕ → ℕ → ℤ → Inst) (a a' b b' : ℕ) (z z' : ℤ) → a ≡ a' → b ≡ b' → z ≡ z' → Some (make a b z) ≡ Some (make a' b' z')
same_2_imm make a a' b b' z z' e f g = ap (λ n. Some (make n b z)) e ∙ ap (λ n. Some (make a' n z)) f ∙ ap (λ n. Some (make a' b' n)) g

same_1_imm : (make : ℕ → ℤ → Inst) (a a' : ℕ) (z z' : ℤ) → a ≡ a' → z ≡ z' → Some (make a z) ≡ Some (make a' z')
same_1_imm make a a' z z' e g = ap (λ n. Some (make n z)) e ∙ ap (λ n. Some (make a' n)) g

pub row_r : (make : ℕ → ℕ → ℕ → Inst) (r : Option ℕ) (i : Inst) (op f3 f7 a b c : ℕ) → IfSome r (λ w. IsLaidOut w op a f3 b c f7) → i ≡ make a b c →
    ((w : ℕ) → opcode w ≡ op → funct3 w ≡ f3 → funct7 w ≡ f7 → row_of w ≡ Some (make (rd w) (rs1 w) (rs2 w))) → IfSome r (λ w. row_of w ≡ Some i)
row_r make None i op f3 f7 a b c laid is row = tt
row_r make (Some w) i op f3 f7 a b c laid is row =
    row w laid.opcode_is laid.funct3_is laid.high_is ∙ same_3 make (rd w) a (rs1 w) b (rs2 w) c laid.low_is laid.first_is laid.second_is ∙ ap Some (sym is)

pub row_i : (make : ℕ → ℕ → ℤ → Inst) (r : Option ℕ) (i : Inst) (op f3 a b : ℕ) (z : ℤ) → FitsSigned w64 z → IfSome r (λ w. IsFormatI w op f3 a b (to_z w64 (of_z w64 z))) → i ≡ make a b z →
    ((w : ℕ) → opcode w ≡ op → funct3 w ≡ f3 → row_of w ≡ Some (make (rd w) (rs1 w) (imm_i w))) → IfSome r (λ w. row_of w ≡ Some i)
row_i make None i op f3 a b z fits laid is row = tt
row_i make (Some w) i op f3 a b z fits laid is row =
    row w laid.opcode_is laid.funct3_is ∙ same_2_imm make (rd w) a (rs1 w) b (imm_i w) z laid.rd_is laid.rs1_is (laid.imm_is ∙ to_z-of_z w64 z fits) ∙ ap Some (sym is)

pub row_s : (make : ℕ → ℕ → ℤ → Inst) (r : Option ℕ) (i : Inst) (op f3 a b : ℕ) (z : ℤ) → FitsSigned w64 z → IfSome r (λ w. IsFormatS w op f3 a b (to_z w64 (of_z w64 z))) → i ≡ make a b z →
    ((w : ℕ) → opcode w ≡ op → funct3 w ≡ f3 → row_of w ≡ Some (make (rs1 w) (rs2 w) (imm_s w))) → IfSome r (λ w. row_of w ≡ Some i)
row_s make None i op f3 a b z fits laid is row = tt
row_s make (Some w) i op f3 a b z fits laid is row =
    row w laid.opcode_is laid.funct3_is ∙ same_2_imm make (rs1 w) a (rs2 w) b (imm_s w) z laid.rs1_is laid.rs2_is (laid.imm_is ∙ to_z-of_z w64 z fits) ∙ ap Some (sym is)

pub row_b : (make : ℕ → ℕ → ℤ → Inst) (r : Option ℕ) (i : Inst) (op f3 a b : ℕ) (z : ℤ) → FitsSigned w64 z → IfSome r (λ w. IsFormatB w op f3 a b (to_z w64 (of_z w64 z))) → i ≡ make a b z →
    ((w : ℕ) → opcode w ≡ op → funct3 w ≡ f3 → row_of w ≡ Some (make (rs1 w) (rs2 w) (imm_b w))) → IfSome r (λ w. row_of w ≡ Some i)
row_b make None i op f3 a b z fits laid is row = tt
row_b make (Some w) i op f3 a b z fits laid is row =
    row w laid.opcode_is laid.funct3_is ∙ same_2_imm make (rs1 w) a (rs2 w) b (imm_b w) z laid.rs1_is laid.rs2_is (laid.imm_is ∙ to_z-of_z w64 z fits) ∙ ap Some (sym is)

pub row_u : (make : ℕ → ℤ → Inst) (r : Option ℕ) (i : Inst) (op a : ℕ) (z : ℤ) → FitsSigned w64 z → IfSome r (λ w. IsFormatU w op a (to_z w64 (of_z w64 z))) → i ≡ make a z →
    ((w : ℕ) → opcode w ≡ op → row_of w ≡ Some (make (rd w) (imm_u w))) → IfSome r (λ w. row_of w ≡ Some i)
row_u make None i op a z fits laid is row = tt
row_u make (Some w) i op a z fits laid is row =
    row w laid.opcode_is ∙ same_1_imm make (rd w) a (imm_u w) z laid.rd_is (laid.imm_is ∙ to_z-of_z w64 z fits) ∙ ap Some (sym is)

pub row_j : (make : ℕ → ℤ → Inst) (r : Option ℕ) (i : Inst) (op a : ℕ) (z : ℤ) → FitsSigned w64 z → IfSome r (λ w. IsFormatJ w op a (to_z w64 (of_z w64 z))) → i ≡ make a z →
    ((w : ℕ) → opcode w ≡ op → row_of w ≡ Some (make (rd w) (imm_j w))) → IfSome r (λ w. row_of w ≡ Some i)
row_j make None i op a z fits laid is row = tt
row_j make (Some w) i op a z fits laid is row =
    row w laid.opcode_is ∙ same_1_imm make (rd w) a (imm_j w) z laid.rd_is (laid.imm_is ∙ to_z-of_z w64 z fits) ∙ ap Some (sym is)

pub row_shift : (make : ℕ → ℕ → ℕ → Inst) (r : Option ℕ) (i : Inst) (op f3 f6 a b c : ℕ) → IfSome r (λ w. IsShift w op f3 f6 a b c) → i ≡ make a b c →
    ((w : ℕ) → opcode w ≡ op → funct3 w ≡ f3 → funct6 w ≡ f6 → row_of w ≡ Some (make (rd w) (rs1 w) (shamt w))) → IfSome r (λ w. row_of w ≡ Some i)
row_shift make None i op f3 f6 a b c laid is row = tt
row_shift make (Some w) i op f3 f6 a b c laid is row =
    row w laid.opcode_is laid.funct3_is laid.funct6_is ∙ same_3 make (rd w) a (rs1 w) b (shamt w) c laid.rd_is laid.rs1_is laid.shamt_is ∙ ap Some (sym is)

pub row_fence : (make : ℕ → ℕ → ℕ → Inst) (r : Option ℕ) (i : Inst) (a b c : ℕ) → IfSome r (λ w. IsFence w a b c) → i ≡ make a b c →
    ((w : ℕ) → opcode w ≡ 0x0f → funct3 w ≡ 0 → row_of w ≡ Some (make (fence_mode w) (predecessors w) (successors w))) → IfSome r (λ w. row_of w ≡ Some i)
row_fence make None i a b c laid is row = tt
row_fence make (Some w) i a b c laid is row =
    row w laid.opcode_is laid.funct3_is ∙ same_3 make (fence_mode w) a (predecessors w) b (successors w) c laid.mode_is laid.before_is laid.after_is ∙ ap Some (sym is)

pub row_atomic : (make : ℕ → ℕ → ℕ → Inst) (r : Option ℕ) (i : Inst) (f3 f5 a b c : ℕ) → IfSome r (λ w. IsAtomic w f3 f5 a b c) → i ≡ make a b c →
    ((w : ℕ) → opcode w ≡ 0x2f → funct3 w ≡ f3 → funct5 w ≡ f5 → row_of w ≡ Some (make (rd w) (rs1 w) (rs2 w))) → IfSome r (λ w. row_of w ≡ Some i)
row_atomic make None i f3 f5 a b c laid is row = tt
row_atomic make (Some w) i f3 f5 a b c laid is row =
    row w laid.opcode_is laid.funct3_is laid.funct5_is ∙ same_3 make (rd w) a (rs1 w) b (rs2 w) c laid.rd_is laid.rs1_is laid.rs2_is ∙ ap Some (sym is)

-- LR has no second register, and zero in its place
pub row_reserved : (make : ℕ → ℕ → Inst) (r : Option ℕ) (i : Inst) (f3 f5 a b : ℕ) → IfSome r (λ w. IsAtomic w f3 f5 a b 0) → i ≡ make a b →
    ((w : ℕ) → opcode w ≡ 0x2f → funct3 w ≡ f3 → funct5 w ≡ f5 → rs2 w ≡ 0 → row_of w ≡ Some (make (rd w) (rs1 w))) → IfSome r (λ w. row_of w ≡ Some i)
row_reserved make None i f3 f5 a b laid is row = tt
row_reserved make (Some w) i f3 f5 a b laid is row =
    row w laid.opcode_is laid.funct3_is laid.funct5_is laid.rs2_is ∙ same_3 (λ n m _. make n m) (rd w) a (rs1 w) b (rs2 w) 0 laid.rd_is laid.rs1_is laid.rs2_is ∙ ap Some (sym is)
