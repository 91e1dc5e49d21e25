-- Worked examples, proved by computation. The words are those that the GNU assembler makes.
use Rattle.std.proofs.Common.{◌≡◌, ◌^◌, ◌-◌, refl, Some, None, pos, negsuc, true, false, [], ◌∷◌, map, replicate}
use Rattle.mach_types.specs.declared.registers.Regs.{Regs}
use Rattle.rv_inst.specs.Meaning.{meaning}
use Rattle.rv_inst.specs.Memory.{loaded, amo_result}
use Rattle.rv_inst.specs.Multiply.{quotient, remainder, product_high, product_high_mixed, product_high_unsigned, quotient_32, remainder_32}
use Rattle.rv_inst.specs.Order.{is_full_fence}
use Rattle.rv_inst.specs.Table.{row_of, rows}
use Rattle.rv_inst.specs.Words.{sign_extended_32, shift_right_signed, shift_left_32}
use Rattle.rv_inst.specs.declared.effects.AmoOp.TheVariants as op
use Rattle.rv_inst.specs.declared.effects.Effect.TheVariants as effect
use Rattle.rv_inst.specs.declared.instruction.Inst.TheVariants as inst

-- lui, auipc, jal, jalr, beq and bgeu with immediates at their ends
jumps : map row_of (0x00020437 ∷ 0xfffff0b7 ∷ 0x7ffff097 ∷ 0xfe1ff06f ∷ 0x7ffff0ef ∷ 0xfff100e7 ∷ 0x00050e63 ∷ 0x8020f063 ∷ []) ≡
    Some (inst.Lui 8 (pos 0x20000)) ∷ Some (inst.Lui 1 (negsuc 4095)) ∷ Some (inst.Auipc 1 (pos 0x7ffff000)) ∷ Some (inst.Jal 0 (negsuc 31))
    ∷ Some (inst.Jal 1 (pos 0xffffe)) ∷ Some (inst.Jalr 1 2 (negsuc 0)) ∷ Some (inst.Beq 10 0 (pos 28)) ∷ Some (inst.Bgeu 1 2 (negsuc 4095)) ∷ []
unfolding row_of rows
jumps = refl

-- addi, sd, sb, slli, srai, sraiw, div and subw
computations : map row_of (0x08b00893 ∷ 0x04543023 ∷ 0x81f08023 ∷ 0x00741413 ∷ 0x43f45413 ∷ 0x41f4d41b ∷ 0x02034e33 ∷ 0x403100bb ∷ []) ≡
    Some (inst.Addi 17 0 (pos 139)) ∷ Some (inst.Sd 8 5 (pos 64)) ∷ Some (inst.Sb 1 31 (negsuc 2047)) ∷ Some (inst.Slli 8 8 7)
    ∷ Some (inst.Srai 8 8 63) ∷ Some (inst.Sraiw 8 9 31) ∷ Some (inst.Div 28 6 0) ∷ Some (inst.Subw 1 2 3) ∷ []
unfolding row_of rows
computations = refl

-- fence rw,rw; fence.tso; fence.i; lr.w; lr.d.aqrl; sc.d; amoswap.d; amomaxu.w.aq; ecall; ebreak
orders : map row_of (0x0330000f ∷ 0x8330000f ∷ 0x0000100f ∷ 0x1000a2af ∷ 0x1600b2af ∷ 0x1860b2af ∷ 0x08b5352f ∷ 0xe421a0af ∷ 0x00000073 ∷ 0x00100073 ∷ []) ≡
    Some (inst.Fence 0 3 3) ∷ Some (inst.Fence 8 3 3) ∷ Some inst.FenceI ∷ Some (inst.LrW 5 1) ∷ Some (inst.LrD 5 1)
    ∷ Some (inst.ScD 5 1 6) ∷ Some (inst.AmoSwapD 10 10 11) ∷ Some (inst.AmoMaxuW 1 3 2) ∷ Some inst.Ecall ∷ Some inst.Ebreak ∷ []
unfolding row_of rows
orders = refl

-- no instructions: zero, an abort handler's signature, a load of width 7, lr with a second register, wfi, slliw by 32
no_rows : map row_of (0x00000000 ∷ 0xf1401073 ∷ 0x0000f003 ∷ 0x1010a2af ∷ 0x10500073 ∷ 0x0200901b ∷ []) ≡ None ∷ None ∷ None ∷ None ∷ None ∷ None ∷ []
unfolding row_of rows
no_rows = refl

-- the quotient of the least number by -1 is itself, the remainder 0; by zero, all bits set and the dividend
divisions : quotient (2 ^ 63) (2 ^ 64 - 1) ∷ remainder (2 ^ 63) (2 ^ 64 - 1) ∷ quotient 5 0 ∷ remainder 5 0 ∷ quotient (2 ^ 64 - 20) 6 ∷ remainder (2 ^ 64 - 20) 6 ∷ [] ≡
    (2 ^ 63) ∷ 0 ∷ (2 ^ 64 - 1) ∷ 5 ∷ (2 ^ 64 - 3) ∷ (2 ^ 64 - 2) ∷ []
divisions = refl

divisions_32 : quotient_32 0x80000000 0xffffffff ∷ remainder_32 0x80000000 0xffffffff ∷ quotient_32 5 0x700000000 ∷ remainder_32 0x80000001 0 ∷ [] ≡
    0xffffffff80000000 ∷ 0 ∷ (2 ^ 64 - 1) ∷ 0xffffffff80000001 ∷ []
divisions_32 = refl

-- the high halves of -1 by -1: signed, mixed, unsigned
high_products : product_high (2 ^ 64 - 1) (2 ^ 64 - 1) ∷ product_high_mixed (2 ^ 64 - 1) (2 ^ 64 - 1) ∷ product_high_unsigned (2 ^ 64 - 1) (2 ^ 64 - 1) ∷ [] ≡
    0 ∷ (2 ^ 64 - 1) ∷ (2 ^ 64 - 2) ∷ []
high_products = refl

shifts : shift_right_signed (2 ^ 64 - 256) 68 ∷ shift_left_32 1 31 ∷ shift_left_32 1 32 ∷ sign_extended_32 0x17fffffff ∷ [] ≡
    (2 ^ 64 - 16) ∷ 0xffffffff80000000 ∷ 1 ∷ 0x7fffffff ∷ []
shifts = refl

accesses : loaded 0x8182 1 true ∷ loaded 0x8182 2 false ∷ loaded 0x80000000 4 true ∷ amo_result op.Add 4 0xffffffff 5 ∷ amo_result op.Min 4 0xffffffff 5 ∷ amo_result op.MinU 4 0xffffffff 5 ∷ [] ≡
    (2 ^ 64 - 126) ∷ 0x8182 ∷ 0xffffffff80000000 ∷ 4 ∷ 0xffffffff ∷ 5 ∷ []
accesses = refl

fences : is_full_fence 0 3 3 ∷ is_full_fence 0 1 2 ∷ is_full_fence 0 2 3 ∷ is_full_fence 8 3 3 ∷ is_full_fence 8 15 3 ∷ [] ≡ true ∷ true ∷ false ∷ false ∷ true ∷ []
fences = refl

-- registers with 0x2001 in x1 and 7 in x2
some_registers : Regs
some_registers = record { x = 0 ∷ 0x2001 ∷ 7 ∷ replicate 29 0 }

meanings : map (λ i. meaning i some_registers 0x1000)
    (inst.Jalr 1 1 (pos 0) ∷ inst.Jal 1 (pos 6) ∷ inst.Beq 1 2 (pos 6) ∷ inst.Bne 1 2 (negsuc 7) ∷ inst.Sub 3 2 1 ∷ inst.Addi 3 0 (negsuc 0) ∷ inst.Sb 1 2 (negsuc 0) ∷ inst.Lw 4 1 (pos 3) ∷ []) ≡
    effect.Next 1 0x1004 0x2000 ∷ effect.Misaligned ∷ effect.Next 0 0 0x1004 ∷ effect.Next 0 0 0xff8 ∷ effect.Next 3 (2 ^ 64 - 0x1ffa) 0x1004
    ∷ effect.Next 3 (2 ^ 64 - 1) 0x1004 ∷ effect.Store 0x2000 1 7 ∷ effect.Load 0x2004 4 true 4 ∷ []
unfolding meaning some_registers
meanings = refl
