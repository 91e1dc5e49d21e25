-- How the sequence of each block begins: it asks whether it still is on the chosen processor, and finds the
-- address of that one's data.
use Rattle.std.proofs.Common.{◌≡◌, ℕ, ◌+◌, ◌*◌, ◌^◌, ◌<◌, ◌≤◌, List, [], refl, sym, ap, ◌∙◌, arith, subst}
use Rattle.std.proofs.Common.{inl, inr, Bool, true, false, eqb, slice_get, Some, pos, negsuc}
use Rattle.std.proofs.lemmas.Bool.{eqb-true}
use Rattle.std.proofs.lemmas.Int.{ints}
use Rattle.mach_types.specs.Bytes.{each_byte, word_at}
use Rattle.mach_types.specs.Kernel.Areas.{is_inside}
use Rattle.mach_types.specs.Registers.{register}
use Rattle.mach_types.specs.declared.registers.Regs.{Regs}
use Rattle.mach_types.specs.declared.sequences.Area.{Area}
use Rattle.mach_types.specs.declared.user_memory.Store.{Store}
use Rattle.rv_inst.specs.Memory.{loaded}
use Rattle.rv_inst.specs.Words.{shift_left, sum_64}
use Rattle.rv_inst.specs.declared.instruction.Inst.TheVariants as inst
use Rattle.alone.specs.Alone.{Stand}
use Rattle.alone.specs.Paths.{KeepsOn, Path}
use Rattle.alone.specs.Temps.{IsAt, put}
use Rattle.alone.proofs.Laws.{loaded_small, word_unchanged}
use Rattle.alone.proofs.Means.{means_add, means_bne_not, means_bne_taken, means_ld, means_lw, means_slli}
use Rattle.alone.proofs.Paths.{leaves, then_branch, then_load, then_next}
use Rattle.alone_laws.specs.Blocks.{among}
use Rattle.alone_laws.specs.Spans.{alone_from, code_of, seen_at}
use Rattle.block_model.specs.History.{History, file}
use Rattle.block_model.specs.Setting.{Setting}
use Rattle.percpu_lib.specs.Forms.{Form, IsBlockPlace, committed, range_of}
use Rattle.percpu_lib.specs.Words.{AreHeld}
use Rattle.percpu_lib.proofs.BlockCode.{IsFormed, before_range, behind_range, within_range}
use Rattle.percpu_lib.proofs.CourseLaw.{block, in_area, way}

-- the first words of a sequence: they load the processor, go back to the retry label where it isn't the
-- chosen one, and make the address of its data, which lie so many bytes apart
pub record BeginsSo (form : Form) (shift scale : ℕ) : Type 0 where
  pub lw : slice_get form.words form.first ≡ Some (Some (inst.Lw 6 form.slots.area (pos 4)))
  pub bne : slice_get form.words (form.first + 1) ≡ Some (Some (inst.Bne 6 5 (negsuc (4 * form.first + 3))))
  pub slli : slice_get form.words (form.first + 2) ≡ Some (Some (inst.Slli 5 5 shift))
  pub add : slice_get form.words (form.first + 3) ≡ Some (Some (inst.Add 5 5 form.slots.cells))
  pub long : 5 ≤ form.inside
  pub five : form.may 5 ≡ true
  pub six : form.may 6 ≡ true
  pub area_kept : form.may form.slots.area ≡ false
  pub cells_kept : form.may form.slots.cells ≡ false
  pub shifts : (cpu : ℕ) → cpu < 8 → shift_left cpu shift ≡ scale * cpu

-- the same, from its facts one by one
pub begins_of : (form : Form) (shift scale : ℕ)
    → slice_get form.words form.first ≡ Some (Some (inst.Lw 6 form.slots.area (pos 4)))
    → slice_get form.words (form.first + 1) ≡ Some (Some (inst.Bne 6 5 (negsuc (4 * form.first + 3))))
    → slice_get form.words (form.first + 2) ≡ Some (Some (inst.Slli 5 5 shift))
    → slice_get form.words (form.first + 3) ≡ Some (Some (inst.Add 5 5 form.slots.cells))
    → 5 ≤ form.inside → form.may 5 ≡ true → form.may 6 ≡ true
    → form.may form.slots.area ≡ false → form.may form.slots.cells ≡ false
    → ((cpu : ℕ) → cpu < 8 → shift_left cpu shift ≡ scale * cpu) → BeginsSo form shift scale
begins_of form shift scale lw bne slli add long five six area cells shifts = record {
  lw = lw;
  bne = bne;
  slli = slli;
  add = add;
  long = long;
  five = five;
  six = six;
  area_kept = area;
  cells_kept = cells;
  shifts = shifts;
}

-- the words of a sequence, and the one behind it
pub record HasSequence (form : Form) (at : ℕ) : Type 0 where
  pub here : (k : ℕ) → form.first ≤ k → k < committed form → is_inside (range_of form at) (at + 4 * k) ≡ true
  pub out : is_inside (range_of form at) (at + 4 * committed form) ≡ false

pub sequence_at : (form : Form) (at : ℕ) → IsFormed form → at < 2 ^ 37 → HasSequence form at
sequence_at form at formed low =
    let within = formed.within in
    let all = formed.short in
    record {
      here = λ k from lt. within_range form at k low (omega arith) from lt;
      out = behind_range form at (committed form) low (omega arith) (omega arith);
    }

module _ (s : Setting) (form : Form) (at : ℕ) (area : Area) (h t : ℕ) (begun : History)
    (Inside : List Store → Type 0) (Done : (ℕ → ℕ) → List Store → Type 0)
    (formed : IsFormed form) (held : AreHeld (code_of s.program.pages) at form.words)
    (place : IsBlockPlace s form at area h t begun) where
  abbrev w : Path
  w = way s form at area h t begun Inside Done

  abbrev old : Regs
  old = (file s t begun).file

  short : committed form < 2 ^ 8
  short =
      let within = formed.within in
      let all = formed.short in
      omega arith

  open (sequence_at form at formed place.low) use {here as inside_at}

  retry_out : is_inside (range_of form at) at ≡ false
  retry_out =
      let some = formed.some in
      ap (is_inside (range_of form at)) (omega arith) ∙ before_range form at 0 place.low short (omega arith)

  -- from the start on: back to the retry label, or on to the rest, with the address in x5
  module _ (shift scale : ℕ) (begins : BeginsSo form shift scale) (nothing : Inside [])
      (has : (a : ℕ) → among area.at 32 a ≡ true → (block s form at area h t begun Inside Done).words a
      ≡ true)
      (cells : ℕ) (cells_is : register old form.slots.cells ≡ cells)
      (fits : sum_64 (scale * h) cells ≡ cells + scale * h) where
    abbrev pub temps_there : ℕ → ℕ
    temps_there = put 5 (cells + scale * h) (put 5 (scale * h) (put 6 h (register old)))

    abbrev Rest : Type 0
    Rest = (y : Stand) → IsAt form.may old (at + 4 * (form.first + 4)) temps_there [] y → KeepsOn w y

    back : (y : Stand) → IsAt form.may old (at + 4 * (form.first + 1)) (put 6 h (register old)) [] y
        → eqb h (register old 5) ≡ false → KeepsOn w y
    back y was differs =
        let low = place.low in
        let near = short in
        let long = begins.long in
        let even = place.aligned in
        then_branch w (at + 4 * (form.first + 1)) (put 6 h (register old)) [] y was
        (inside_at (form.first + 1) (omega arith) (omega arith)) nothing
        (inst.Bne 6 5 (negsuc (4 * form.first + 3)))
        (held.holds (form.first + 1) (inst.Bne 6 5 (negsuc (4 * form.first + 3))) begins.bne) 0 at
        (λ f like. means_bne_taken f (at + 4 * (form.first + 1)) 6 5 (negsuc (4 * form.first + 3)) h
        (register old 5) at
        (like.temp 6 begins.six) (like.temp 5 begins.five) differs (omega (arith, ints)) even)
        (inr retry_out)
        (λ z now. leaves w at (put 6 h (register old)) [] z now retry_out (inl (refl, refl, differs)))

    onward : (y : Stand) → IsAt form.may old (at + 4 * (form.first + 1)) (put 6 h (register old)) [] y
        → eqb h (register old 5) ≡ true → Rest → KeepsOn w y
    onward y was same rest =
        let low = place.low in
        let near = short in
        let long = begins.long in
        then_branch w (at + 4 * (form.first + 1)) (put 6 h (register old)) [] y was
        (inside_at (form.first + 1) (omega arith) (omega arith)) nothing
        (inst.Bne 6 5 (negsuc (4 * form.first + 3)))
        (held.holds (form.first + 1) (inst.Bne 6 5 (negsuc (4 * form.first + 3))) begins.bne) 0
        (at + 4 * (form.first + 2))
        (λ f like. means_bne_not f (at + 4 * (form.first + 1)) (at + 4 * (form.first + 2)) (omega arith) 6 5
        (negsuc (4 * form.first + 3)) h (register old 5) (like.temp 6 begins.six) (like.temp 5 begins.five)
        same)
        (inl ((omega arith), (omega arith)))
        (λ z now.
        then_next w (at + 4 * (form.first + 2)) (put 6 h (register old)) [] z now
        (inside_at (form.first + 2) (omega arith) (omega arith)) nothing (inst.Slli 5 5 shift)
        (held.holds (form.first + 2) (inst.Slli 5 5 shift) begins.slli) 5 (scale * h)
        (at + 4 * (form.first + 3))
        (λ f like. means_slli f (at + 4 * (form.first + 2)) (at + 4 * (form.first + 3)) (omega arith) 5 5
        shift h
        (scale * h) (like.temp 5 begins.five ∙ sym (eqb-true h (register old 5) same))
        (begins.shifts h place.few))
        begins.five refl (omega arith) (omega arith) (omega arith)
        (λ u then.
        then_next w (at + 4 * (form.first + 3)) (put 5 (scale * h) (put 6 h (register old))) [] u then
        (inside_at (form.first + 3) (omega arith) (omega arith)) nothing (inst.Add 5 5 form.slots.cells)
        (held.holds (form.first + 3) (inst.Add 5 5 form.slots.cells) begins.add) 5 (cells + scale * h)
        (at + 4 * (form.first + 4))
        (λ f like. means_add f (at + 4 * (form.first + 3)) (at + 4 * (form.first + 4)) (omega arith) 5 5
        form.slots.cells (scale * h) cells (cells + scale * h) (like.temp 5 begins.five)
        (like.rest form.slots.cells begins.cells_kept ∙ cells_is) fits)
        begins.five refl (omega arith) (omega arith) (omega arith) rest))

    compared : (y : Stand) → IsAt form.may old (at + 4 * (form.first + 1)) (put 6 h (register old)) [] y
        → Rest
        → (b : Bool) → eqb h (register old 5) ≡ b → KeepsOn w y
    compared y was rest false differs = back y was differs
    compared y was rest true same = onward y was same rest

    stands_at_start : IsAt form.may old (at + 4 * form.first) (register old) [] (alone_from s h t begun 0)
    stands_at_start = record {
      pc = place.pc;
      like = record { temp = λ r is. refl; rest = λ r is. refl; many = place.many };
      executed = refl;
    }

    pub to_cell : Rest → KeepsOn w (alone_from s h t begun 0)
    to_cell rest =
        let low = place.low in
        let low_area = place.low_area in
        let near = short in
        let long = begins.long in
        then_load w (at + 4 * form.first) (register old) [] (alone_from s h t begun 0) stands_at_start
        (inside_at form.first (omega arith) (omega arith)) nothing
        (inst.Lw 6 form.slots.area (pos 4)) (held.holds form.first (inst.Lw 6 form.slots.area (pos 4))
        begins.lw)
        (area.at + 4) 4 6 h (at + 4 * (form.first + 1)) true
        (λ f like. means_lw f (at + 4 * form.first) 6 form.slots.area (pos 4) area.at (area.at + 4)
        (like.rest form.slots.area begins.area_kept ∙ place.area_is) (omega arith))
        (in_area s form at area h t begun Inside Done has (area.at + 4) 4 (omega arith) (omega arith))
        (word_unchanged w.seen (area.at + 4) 4 ∙ place.on_cpu) begins.six refl (omega arith) (omega arith)
        (omega arith) (omega arith)
        (λ y now. compared y
        (subst (λ n. IsAt form.may old (at + 4 * (form.first + 1)) (put 6 n (register old)) [] y)
        (loaded_small h place.few) now) rest (eqb h (register old 5)) refl)

    -- and on, once the word there is in a register
    pub to_word : (d v : ℕ) → form.may d ≡ true → eqb d 0 ≡ false → d < 32
        → slice_get form.words (form.first + 4) ≡ Some (Some (inst.Ld d 5 (pos 0)))
        → cells + scale * h + 8 ≤ 2 ^ 64
        → each_byte (block s form at area h t begun Inside Done).words (cells + scale * h) 8 ≡ true
        → word_at (seen_at s h begun) (cells + scale * h) 8 ≡ Some v
        → ((y : Stand) → IsAt form.may old (at + 4 * (form.first + 5)) (put d (loaded v 8 true) temps_there) [] y
        → KeepsOn w y)
        → KeepsOn w (alone_from s h t begun 0)
    to_word d v may some small there high used is rest =
        let low = place.low in
        let near = short in
        let long = begins.long in
        to_cell (λ y now.
        then_load w (at + 4 * (form.first + 4)) temps_there [] y now
        (inside_at (form.first + 4) (omega arith) (omega arith)) nothing
        (inst.Ld d 5 (pos 0)) (held.holds (form.first + 4) (inst.Ld d 5 (pos 0)) there)
        (cells + scale * h) 8 d v (at + 4 * (form.first + 5)) true
        (λ f like. means_ld f (at + 4 * (form.first + 4)) d 5 (pos 0) (cells + scale * h) (cells + scale * h)
        (like.temp 5 begins.five) (omega arith))
        used (word_unchanged w.seen (cells + scale * h) 8 ∙ is) may some small (omega arith) (omega arith)
        (omega arith) rest)
