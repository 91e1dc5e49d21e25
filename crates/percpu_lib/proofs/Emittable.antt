-- Each line of a block has a word, or is aimed at a label that is there.
use Rattle.std.proofs.Common.{◌≡◌, ℕ, zero, suc, ◌+◌, ◌*◌, ◌/◌, ◌%◌, ◌^◌, ◌<◌, ◌≤◌, List, [], ◌∷◌, ◌++◌, refl, arith}
use Rattle.std.proofs.Common.{Bool, true, false, ◌&&◌, ltb, All, ℤ, pos, negsuc, ◌-ℤ◌, eq-eqb}
use Rattle.std.specs.List.{AllByRecursion}
use Rattle.std.proofs.lemmas.Bool.{lt-ltb}
use Rattle.std.proofs.lemmas.Int.{ints}
use Rattle.rv_asm.specs.Fields.{has_signed_bits}
use Rattle.percpu_lib.specs.Adds.{add_lines, add_steps}
use Rattle.percpu_lib.specs.Allocs.{alloc_lines, alloc_steps}
use Rattle.percpu_lib.specs.BlockLines.{block_lines, end_lines, leave_lines, start_lines}
use Rattle.percpu_lib.specs.Frees.{free_aborted, free_first, free_lines, free_steps}
use Rattle.percpu_lib.specs.Lines.{IsEmittable}
use Rattle.percpu_lib.specs.Pops.{pop_lines, pop_steps}
use Rattle.percpu_lib.specs.Pushes.{push_lines, push_steps}
use Rattle.percpu_lib.specs.Words.{AreSlots, lower}
use Rattle.percpu_lib.specs.declared.lines.Line.{Line}
use Rattle.percpu_lib.specs.declared.slots.Slots.{Slots}

all_of : (P : Line → Type 0) (xs : List Line) → AllByRecursion P xs → All P xs
all_of P [] all k d lt = absurd (omega arith)
all_of P (x ∷ xs) all zero d lt = all.0
all_of P (x ∷ xs) all (suc k) d lt = all_of P xs all.1 k d (omega arith)

pub all_joined : (P : Line → Type 0) (xs ys : List Line) → AllByRecursion P xs → AllByRecursion P ys
    → AllByRecursion P (xs ++ ys)
all_joined P [] ys first rest = rest
all_joined P (x ∷ xs) ys first rest = (first.0, all_joined P xs ys first.1 rest)

low_fits : (z : ℤ) (n : ℕ) → z ≡ pos n -ℤ pos ((n + 2048) / 4096 * 4096) → has_signed_bits 12 z ≡ true
low_fits (pos k) n is = lt-ltb k 2048 (omega (arith, ints))
low_fits (negsuc k) n is = lt-ltb k 2048 (omega (arith, ints))

pub both_true : (a b : Bool) → a ≡ true → b ≡ true → (a && b) ≡ true
both_true true b p q = q
both_true false b p q = p

module _ (p : Slots) (base labels : ℕ) (slots : AreSlots p) (low : p.table < 0x7FFFF800)
    (room : base + 8 ≤ labels) where
  abbrev pub AreEmittable : List Line → Type 0
  AreEmittable xs = AllByRecursion (IsEmittable labels) xs

  area : ltb p.area 32 ≡ true
  area = lt-ltb p.area 32 slots.low_area

  cells : ltb p.cells 32 ≡ true
  cells = lt-ltb p.cells 32 slots.low_cells

  value : ltb p.value 32 ≡ true
  value = lt-ltb p.value 32 slots.low_value

  start_emittable : (shift : ℕ) → ltb shift 64 ≡ true → AreEmittable (start_lines p base shift)
  start_emittable shift short =
      let part = (p.table + 2048) / 4096 * 4096 in
      let small : part < 2 ^ 31 = omega arith in
      let whole : part % 4096 ≡ 0 = omega arith in (
        both_true (ltb p.area 32) true area refl,
        (
          both_true (ltb part (2 ^ 31)) _ (lt-ltb _ (2 ^ 31) small) (eq-eqb _ 0 whole),
          (
            low_fits (lower p.table) p.table refl,
            (
              both_true (ltb p.area 32 && true) true (both_true (ltb p.area 32) true area refl) refl,
              (
                tt,
                (
                  both_true (ltb p.area 32) true area refl,
                  ((refl, omega arith), (short, (cells, tt))),
                ),
              ),
            ),
          ),
        ),
      )

  pub block_emittable : (shift : ℕ) (first inside aborted : List Line) → ltb shift 64 ≡ true → AreEmittable first
      → AreEmittable inside → AreEmittable aborted
      → All (IsEmittable labels) (block_lines p base shift first inside aborted)
  block_emittable shift first inside aborted short one two three =
      let end : AreEmittable (end_lines base) = ((refl, omega arith), (tt, tt)) in
      let behind = all_joined (IsEmittable labels) aborted (end_lines base) three end in
      let leave : AreEmittable (leave_lines base) = (tt, ((refl, omega arith), (tt, (tt, tt)))) in
      let leaving = all_joined (IsEmittable labels) (leave_lines base) _ leave behind in
      let within = all_joined (IsEmittable labels) inside _ two leaving in
      let start = all_joined (IsEmittable labels) (start_lines p base shift) _ (start_emittable shift short) within in
      all_of (IsEmittable labels) (block_lines p base shift first inside aborted)
      (tt, all_joined (IsEmittable labels) first _ one start)

  pub add_emittable : All (IsEmittable labels) (add_lines p base)
  add_emittable =
      let steps : AreEmittable (add_steps p) = (refl, (value, (refl, tt))) in
      block_emittable 6 [] (add_steps p) [] refl tt steps tt

  -- the value is a register that is written or comes first, and one that comes second
  pub written : (ltb p.value 32 && true && true) ≡ true
  written = both_true (ltb p.value 32 && true) true (both_true (ltb p.value 32) true value refl) refl

  pub second : (ltb p.value 32 && true) ≡ true
  second = both_true (ltb p.value 32) true value refl

  pub push_emittable : All (IsEmittable labels) (push_lines p base)
  push_emittable =
      let steps : AreEmittable (push_steps p) = (refl, (written, (second, tt))) in
      block_emittable 6 [] (push_steps p) [] refl tt steps tt

  pub pop_emittable : All (IsEmittable labels) (pop_lines p base)
  pop_emittable =
      let steps : AreEmittable (pop_steps p base) = (written, ((second, omega arith), (second, (refl, tt)))) in
      block_emittable 6 [] (pop_steps p base) [] refl tt steps tt

  pub alloc_emittable : All (IsEmittable labels) (alloc_lines p base)
  alloc_emittable =
      let steps : AreEmittable (alloc_steps p base) =
      (refl, (written, ((refl, omega arith), (refl, (refl, (refl, (written, (refl, tt)))))))) in
      block_emittable 13 [] (alloc_steps p base) [] refl tt steps tt

  pub free_emittable : All (IsEmittable labels) (free_lines p base)
  free_emittable =
      let first : AreEmittable (free_first p) = (second, tt) in
      let aborted : AreEmittable (free_aborted p) = (written, tt) in
      let steps : AreEmittable (free_steps p base) =
      (refl, (refl, ((refl, omega arith), (refl, (refl, (second, (refl, (written, (refl, tt))))))))) in
      block_emittable 13 (free_first p) (free_steps p base) (free_aborted p) refl first steps aborted
