-- A word under a mask, by the fields that the mask covers.
use Rattle.std.proofs.Common.{◌≡◌, ℕ, ◌+◌, ◌-◌, ◌*◌, ◌/◌, ◌%◌, ◌^◌, ◌<◌, ap, sym, ◌∙◌, arith, lit<}
use Rattle.std.specs.Int.Bits.{bit_and}
use Rattle.std.proofs.lemmas.Nat.{and_mask, and_block, shr_split, mod_below, pow_pos}
use Rattle.std.proofs.lemmas.Nat.Bits.{and_high}
use Rattle.rv_inst.specs.Fields.{field, rs2}
use Rattle.rv_decode.specs.Selectors.{opcode, funct3, funct5, funct6, funct7}

-- a mask cut in two at bit k
cut : (k w high low : ℕ) → low < 2 ^ k → bit_and w (high * 2 ^ k + low) ≡ bit_and (w / 2 ^ k) high * 2 ^ k + bit_and (w % 2 ^ k) low
cut k w high low fits =
    ap (λ n. bit_and n (high * 2 ^ k + low)) (sym (shr_split w k)) ∙ and_block k (w / 2 ^ k) high (w % 2 ^ k) low (mod_below w (2 ^ k) (pow_pos k)) fits

-- a field under its own mask
pub and_field : (low count w : ℕ) → bit_and w (2 ^ (count + low) - 2 ^ low) ≡ field low count w * 2 ^ low
and_field low count w = and_high w count low

pub and_7f : (w : ℕ) → bit_and w 0x7f ≡ opcode w
and_7f w = let e : bit_and w 0x7f ≡ w % 128 = and_mask w 7 in omega arith

pub and_707f : (w : ℕ) → bit_and w 0x707f ≡ funct3 w * 4096 + opcode w
and_707f w =
    let e : bit_and w 0x707f ≡ bit_and (w / 4096) 7 * 4096 + bit_and (w % 4096) 127 = cut 12 w 7 0x7f (lit< tt) in
    let high : bit_and (w / 4096) 7 ≡ (w / 4096) % 8 = and_mask (w / 4096) 3 in
    let low : bit_and (w % 4096) 127 ≡ opcode (w % 4096) = and_7f (w % 4096) in
    omega arith

-- the same with bits from 25, 26 or 27 on
above : (k top : ℕ) (w : ℕ) → 0x707f < 2 ^ k → bit_and w ((2 ^ top - 1) * 2 ^ k + 0x707f) ≡ field k top w * 2 ^ k + (funct3 (w % 2 ^ k) * 4096 + opcode (w % 2 ^ k))
above k top w fits =
    cut k w (2 ^ top - 1) 0x707f fits ∙ ap (λ n. n * 2 ^ k + bit_and (w % 2 ^ k) 0x707f) (and_mask (w / 2 ^ k) top) ∙ ap (λ n. field k top w * 2 ^ k + n) (and_707f (w % 2 ^ k))

pub and_fe00707f : (w : ℕ) → bit_and w 0xfe00707f ≡ funct7 w * 33554432 + funct3 w * 4096 + opcode w
and_fe00707f w =
    let e : bit_and w 0xfe00707f ≡ funct7 w * 33554432 + (funct3 (w % 33554432) * 4096 + opcode (w % 33554432)) = above 25 7 w (lit< tt) in
    omega arith

pub and_fc00707f : (w : ℕ) → bit_and w 0xfc00707f ≡ funct6 w * 67108864 + funct3 w * 4096 + opcode w
and_fc00707f w =
    let e : bit_and w 0xfc00707f ≡ funct6 w * 67108864 + (funct3 (w % 67108864) * 4096 + opcode (w % 67108864)) = above 26 6 w (lit< tt) in
    omega arith

pub and_f800707f : (w : ℕ) → bit_and w 0xf800707f ≡ funct5 w * 134217728 + funct3 w * 4096 + opcode w
and_f800707f w =
    let e : bit_and w 0xf800707f ≡ funct5 w * 134217728 + (funct3 (w % 134217728) * 4096 + opcode (w % 134217728)) = above 27 5 w (lit< tt) in
    omega arith

-- LR: funct5 and rs2
pub and_f9f0707f : (w : ℕ) → bit_and w 0xf9f0707f ≡ funct5 w * 134217728 + rs2 w * 1048576 + funct3 w * 4096 + opcode w
and_f9f0707f w =
    let e : bit_and w 0xf9f0707f ≡ bit_and (w / 134217728) 31 * 134217728 + bit_and (w % 134217728) 0x1f0707f = cut 27 w 31 0x1f0707f (lit< tt) in
    let high : bit_and (w / 134217728) 31 ≡ funct5 w = and_mask (w / 134217728) 5 in
    let middle : bit_and (w % 134217728) 0x1f0707f ≡ bit_and ((w % 134217728) / 1048576) 31 * 1048576 + bit_and ((w % 134217728) % 1048576) 0x707f = cut 20 (w % 134217728) 31 0x707f (lit< tt) in
    let second : bit_and ((w % 134217728) / 1048576) 31 ≡ ((w % 134217728) / 1048576) % 32 = and_mask ((w % 134217728) / 1048576) 5 in
    let low : bit_and ((w % 134217728) % 1048576) 0x707f ≡ funct3 ((w % 134217728) % 1048576) * 4096 + opcode ((w % 134217728) % 1048576) = and_707f ((w % 134217728) % 1048576) in
    omega arith

pub and_ffffffff : (w : ℕ) → w < 2 ^ 32 → bit_and w 0xffffffff ≡ w
and_ffffffff w fits = let e : bit_and w 0xffffffff ≡ w % 4294967296 = and_mask w 32 in omega arith
