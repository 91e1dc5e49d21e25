-- A jump or a branch that reaches its label has a word.
use Rattle.std.proofs.Common.{◌≡◌, ℕ, ◌+◌, ◌*◌, ◌%◌, Bool, true, false, ◌&&◌, if◌then◌else◌, Option, Some, None, FitsSigned, to_z, of_z, w64, ℤ, pos, negsuc, ◌-ℤ◌, refl, ap, sym, ◌∙◌, arith, eq-eqb}
use Rattle.std.proofs.lemmas.Bool.{and_from, false≢true}
use Rattle.std.proofs.lemmas.Int.{ints, to_z-of_z}
use Rattle.rv_inst.specs.declared.instruction.Inst.{Inst}
use Rattle.rv_inst.specs.declared.instruction.Inst.TheVariants as inst
use Rattle.rv_asm.specs.Assembly.{is_aimable, aimed, fits_distance, distance, if_too_far}
use Rattle.rv_asm.specs.Fields.{fits_fields, is_multiple}

-- a difference of multiples of 4 is even
even_difference : (z : ℤ) (a b : ℕ) → z ≡ pos (4 * a) -ℤ pos (4 * b) → is_multiple 2 z ≡ true
even_difference (pos n) a b e = eq-eqb (n % 2) 0 (omega (arith, ints))
even_difference (negsuc n) a b e = eq-eqb ((n + 1) % 2) 0 (omega (arith, ints))

pub is_even-distance : (from to : ℕ) → is_multiple 2 (distance from to) ≡ true
is_even-distance from to = even_difference (distance from to) to from refl

pub fits_fields-aimed : (i : Inst) (d : ℤ) → is_aimable i ≡ true → fits_distance i d ≡ true → is_multiple 2 d ≡ true → fits_fields (aimed i d) ≡ true
fits_fields-aimed (inst.Jal rd imm) d registers fits even = and_from _ _ registers (and_from _ _ fits even)
fits_fields-aimed (inst.Beq rs1 rs2 imm) d registers fits even = and_from _ _ registers (and_from _ _ fits even)
fits_fields-aimed (inst.Bne rs1 rs2 imm) d registers fits even = and_from _ _ registers (and_from _ _ fits even)
fits_fields-aimed (inst.Blt rs1 rs2 imm) d registers fits even = and_from _ _ registers (and_from _ _ fits even)
fits_fields-aimed (inst.Bge rs1 rs2 imm) d registers fits even = and_from _ _ registers (and_from _ _ fits even)
fits_fields-aimed (inst.Bltu rs1 rs2 imm) d registers fits even = and_from _ _ registers (and_from _ _ fits even)
fits_fields-aimed (inst.Bgeu rs1 rs2 imm) d registers fits even = and_from _ _ registers (and_from _ _ fits even)
fits_fields-aimed other d registers fits even = absurd (false≢true registers)

true_if_none : (b : Bool) (label : ℕ) → (if b then None else Some label) ≡ None → b ≡ true
true_if_none true label e = refl
true_if_none false label e = absurd (cc)

-- a bound label that isn't too far is in reach
pub reached : (i : Inst) (index to label : ℕ) (found : Option ℕ) → found ≡ Some to → if_too_far i index found label ≡ None → fits_distance i (distance index to) ≡ true
reached i index to label None bound near = absurd (cc)
reached i index to label (Some other) bound near =
    let same : other ≡ to = cc in
    ap (λ n. fits_distance i (distance index n)) (sym same) ∙ true_if_none (fits_distance i (distance index other)) label near

-- what `aim` makes of a distance
pub aimed-same : (i made : Inst) (d d' : ℤ) → FitsSigned w64 d → d ≡ d' → made ≡ aimed i (to_z w64 (of_z w64 d)) → made ≡ aimed i d'
aimed-same i made d d' fits same made_is = made_is ∙ ap (aimed i) (to_z-of_z w64 d fits ∙ same)
