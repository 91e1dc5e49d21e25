-- The row of a word, by the field on which each function of the decoder switches.
use Rattle.std.proofs.Common.{◌≡◌, ℕ, ◌+◌, ◌*◌, ◌^◌, ◌==◌, true, ◌∙◌, refl, arith, List}
use Rattle.std.specs.Int.Bits.{bit_and}
use Rattle.std.proofs.lemmas.Int.{to_z-of_z}
use Rattle.rv_inst.specs.Fields.{field, rs2}
use Rattle.rv_inst.specs.Table.{Row, row_of, rows}
use Rattle.rv_decode.specs.Selectors.{opcode, funct3, funct5, funct6, funct7}
use Rattle.rv_decode.proofs.Masks.{and_707f, and_field, and_f800707f, and_f9f0707f, and_fc00707f, and_fe00707f}
use Rattle.rv_decode.proofs.Rows.{by_field, differ_in, kept, of_field, of_opcode, of_two_fields, rows_of, rows_with, told}

-- names the groups of rows, for what computes with them
unfoldable pub table : List Row
unfolding rows
table = rows

-- ---- by funct3, where the opcode is known

by_funct3 : (op w : ℕ) → differ_in 0x707f op 12 3 (rows_of op) ≡ true → opcode w ≡ op →
    row_of w ≡ by_field 0x707f 12 3 (funct3 w) (rows_of op) w
by_funct3 op w differ is_op =
    of_opcode op w is_op ∙ told 0x707f op 12 3 w (rows_of op) differ (let e = and_707f w in omega arith)

pub load : (w : ℕ) → opcode w ≡ 0x03 → row_of w ≡ by_field 0x707f 12 3 (funct3 w) (rows_of 0x03) w
unfolding table
load w is_op = by_funct3 0x03 w refl is_op

pub misc_mem : (w : ℕ) → opcode w ≡ 0x0f → row_of w ≡ by_field 0x707f 12 3 (funct3 w) (rows_of 0x0f) w
unfolding table
misc_mem w is_op = by_funct3 0x0f w refl is_op

pub op_imm : (w : ℕ) → opcode w ≡ 0x13 → row_of w ≡ by_field 0x707f 12 3 (funct3 w) (rows_of 0x13) w
unfolding table
op_imm w is_op = by_funct3 0x13 w refl is_op

pub op_imm_32 : (w : ℕ) → opcode w ≡ 0x1b → row_of w ≡ by_field 0x707f 12 3 (funct3 w) (rows_of 0x1b) w
unfolding table
op_imm_32 w is_op = by_funct3 0x1b w refl is_op

pub store : (w : ℕ) → opcode w ≡ 0x23 → row_of w ≡ by_field 0x707f 12 3 (funct3 w) (rows_of 0x23) w
unfolding table
store w is_op = by_funct3 0x23 w refl is_op

pub amo : (w : ℕ) → opcode w ≡ 0x2f → row_of w ≡ by_field 0x707f 12 3 (funct3 w) (rows_of 0x2f) w
unfolding table
amo w is_op = by_funct3 0x2f w refl is_op

pub branch : (w : ℕ) → opcode w ≡ 0x63 → row_of w ≡ by_field 0x707f 12 3 (funct3 w) (rows_of 0x63) w
unfolding table
branch w is_op = by_funct3 0x63 w refl is_op

pub jalr : (w : ℕ) → opcode w ≡ 0x67 → row_of w ≡ by_field 0x707f 12 3 (funct3 w) (rows_of 0x67) w
unfolding table
jalr w is_op = by_funct3 0x67 w refl is_op

-- ---- by funct7, where the opcode is known; and by funct3, where both are

by_funct7 : (op w : ℕ) → differ_in 0xfe000000 0 25 7 (rows_of op) ≡ true → opcode w ≡ op →
    row_of w ≡ by_field 0xfe000000 25 7 (funct7 w) (rows_of op) w
by_funct7 op w differ is_op =
    of_opcode op w is_op ∙ told 0xfe000000 0 25 7 w (rows_of op) differ (let e = and_field 25 7 w in omega arith)

with_funct7 : (op f7 w : ℕ) → differ_in 0xfe00707f (f7 * 33554432 + op) 12 3 (rows_with op 25 7 f7) ≡ true → opcode w ≡ op → funct7 w ≡ f7 →
    row_of w ≡ by_field 0xfe00707f 12 3 (funct3 w) (rows_with op 25 7 f7) w
with_funct7 op f7 w differ is_op is_f7 =
    of_field op 25 7 f7 w is_op is_f7 ∙ told 0xfe00707f (f7 * 33554432 + op) 12 3 w (rows_with op 25 7 f7) differ (let e = and_fe00707f w in omega arith)

pub op : (w : ℕ) → opcode w ≡ 0x33 → row_of w ≡ by_field 0xfe000000 25 7 (funct7 w) (rows_of 0x33) w
unfolding table
op w is_op = by_funct7 0x33 w refl is_op

pub op_32 : (w : ℕ) → opcode w ≡ 0x3b → row_of w ≡ by_field 0xfe000000 25 7 (funct7 w) (rows_of 0x3b) w
unfolding table
op_32 w is_op = by_funct7 0x3b w refl is_op

pub op_multiply : (w : ℕ) → opcode w ≡ 0x33 → funct7 w ≡ 0x01 → row_of w ≡ by_field 0xfe00707f 12 3 (funct3 w) (rows_with 0x33 25 7 0x01) w
unfolding table
op_multiply w is_op is_f7 = with_funct7 0x33 0x01 w refl is_op is_f7

pub op_32_base : (w : ℕ) → opcode w ≡ 0x3b → funct7 w ≡ 0x00 → row_of w ≡ by_field 0xfe00707f 12 3 (funct3 w) (rows_with 0x3b 25 7 0x00) w
unfolding table
op_32_base w is_op is_f7 = with_funct7 0x3b 0x00 w refl is_op is_f7

pub op_32_multiply : (w : ℕ) → opcode w ≡ 0x3b → funct7 w ≡ 0x01 → row_of w ≡ by_field 0xfe00707f 12 3 (funct3 w) (rows_with 0x3b 25 7 0x01) w
unfolding table
op_32_multiply w is_op is_f7 = with_funct7 0x3b 0x01 w refl is_op is_f7

pub op_32_alternate : (w : ℕ) → opcode w ≡ 0x3b → funct7 w ≡ 0x20 → row_of w ≡ by_field 0xfe00707f 12 3 (funct3 w) (rows_with 0x3b 25 7 0x20) w
unfolding table
op_32_alternate w is_op is_f7 = with_funct7 0x3b 0x20 w refl is_op is_f7

-- ---- by funct6, funct7 or funct5, where the opcode and funct3 are known

with_funct3 : (mask low count op f3 w : ℕ) → differ_in mask (f3 * 4096 + op) low count (rows_with op 12 3 f3) ≡ true →
    bit_and w mask ≡ f3 * 4096 + op + field low count w * 2 ^ low → opcode w ≡ op → funct3 w ≡ f3 →
    row_of w ≡ by_field mask low count (field low count w) (rows_with op 12 3 f3) w
with_funct3 mask low count op f3 w differ known is_op is_f3 =
    of_field op 12 3 f3 w is_op is_f3 ∙ told mask (f3 * 4096 + op) low count w (rows_with op 12 3 f3) differ known

pub shift_left : (w : ℕ) → opcode w ≡ 0x13 → funct3 w ≡ 1 → row_of w ≡ by_field 0xfc00707f 26 6 (funct6 w) (rows_with 0x13 12 3 1) w
unfolding table
shift_left w is_op is_f3 = with_funct3 0xfc00707f 26 6 0x13 1 w refl (let e = and_fc00707f w in omega arith) is_op is_f3

pub shift_right : (w : ℕ) → opcode w ≡ 0x13 → funct3 w ≡ 5 → row_of w ≡ by_field 0xfc00707f 26 6 (funct6 w) (rows_with 0x13 12 3 5) w
unfolding table
shift_right w is_op is_f3 = with_funct3 0xfc00707f 26 6 0x13 5 w refl (let e = and_fc00707f w in omega arith) is_op is_f3

pub shift_left_32 : (w : ℕ) → opcode w ≡ 0x1b → funct3 w ≡ 1 → row_of w ≡ by_field 0xfe00707f 25 7 (funct7 w) (rows_with 0x1b 12 3 1) w
unfolding table
shift_left_32 w is_op is_f3 = with_funct3 0xfe00707f 25 7 0x1b 1 w refl (let e = and_fe00707f w in omega arith) is_op is_f3

pub shift_right_32 : (w : ℕ) → opcode w ≡ 0x1b → funct3 w ≡ 5 → row_of w ≡ by_field 0xfe00707f 25 7 (funct7 w) (rows_with 0x1b 12 3 5) w
unfolding table
shift_right_32 w is_op is_f3 = with_funct3 0xfe00707f 25 7 0x1b 5 w refl (let e = and_fe00707f w in omega arith) is_op is_f3

pub amo_word : (w : ℕ) → opcode w ≡ 0x2f → funct3 w ≡ 2 → row_of w ≡ by_field 0xf800707f 27 5 (funct5 w) (rows_with 0x2f 12 3 2) w
unfolding table
amo_word w is_op is_f3 = with_funct3 0xf800707f 27 5 0x2f 2 w refl (let e = and_f800707f w in omega arith) is_op is_f3

pub amo_double : (w : ℕ) → opcode w ≡ 0x2f → funct3 w ≡ 3 → row_of w ≡ by_field 0xf800707f 27 5 (funct5 w) (rows_with 0x2f 12 3 3) w
unfolding table
amo_double w is_op is_f3 = with_funct3 0xf800707f 27 5 0x2f 3 w refl (let e = and_f800707f w in omega arith) is_op is_f3

-- ---- by rs2: LR

load_reserved : (f3 w : ℕ) → differ_in 0xf9f0707f (0x10000000 + f3 * 4096 + 0x2f) 20 5 (kept 27 5 (λ n. n == 0x02) (rows_with 0x2f 12 3 f3)) ≡ true →
    opcode w ≡ 0x2f → funct3 w ≡ f3 → funct5 w ≡ 0x02 →
    row_of w ≡ by_field 0xf9f0707f 20 5 (rs2 w) (kept 27 5 (λ n. n == 0x02) (rows_with 0x2f 12 3 f3)) w
load_reserved f3 w differ is_op is_f3 is_f5 =
    of_two_fields 0x2f 12 3 f3 27 5 0x02 w is_op is_f3 is_f5
    ∙ told 0xf9f0707f (0x10000000 + f3 * 4096 + 0x2f) 20 5 w (kept 27 5 (λ n. n == 0x02) (rows_with 0x2f 12 3 f3)) differ (let e = and_f9f0707f w in omega arith)

pub load_reserved_word : (w : ℕ) → opcode w ≡ 0x2f → funct3 w ≡ 2 → funct5 w ≡ 0x02 → row_of w ≡ by_field 0xf9f0707f 20 5 (rs2 w) (kept 27 5 (λ n. n == 0x02) (rows_with 0x2f 12 3 2)) w
unfolding table
load_reserved_word w is_op is_f3 is_f5 = load_reserved 2 w refl is_op is_f3 is_f5

pub load_reserved_double : (w : ℕ) → opcode w ≡ 0x2f → funct3 w ≡ 3 → funct5 w ≡ 0x02 → row_of w ≡ by_field 0xf9f0707f 20 5 (rs2 w) (kept 27 5 (λ n. n == 0x02) (rows_with 0x2f 12 3 3)) w
unfolding table
load_reserved_double w is_op is_f3 is_f5 = load_reserved 3 w refl is_op is_f3 is_f5

-- what the functions that load, store or jump select by
pub ruleset selections = (load, store, misc_mem, amo, amo_word, amo_double, load_reserved_word, load_reserved_double, branch, jalr, to_z-of_z)

pub ruleset immediates = (op_imm, op_imm_32, to_z-of_z)
