-- The part of the file that a segment has in a page.
use Rattle.std.proofs.Common.{◌≡◌, ℕ, ◌+◌, ◌-◌, ◌<◌, ◌≤◌, ◌⊎◌, inl, inr, true, false, List, ◌++◌, length, take, drop, slice_index, replicate, min, max, sym, ap, ◌∙◌, arith, length-drop}
use Rattle.std.proofs.lemmas.List.{get_or-take, get_or-drop, get_or_append_left, get_or-append_right, get_or-replicate, get_or_past, length-take-le, length-replicate}
use Rattle.elf_load.specs.declared.program_headers.ProgramHeader.{ProgramHeader}
use Rattle.elf_load.specs.Fields.{is_load}
use Rattle.elf_load.specs.Faults.{is_misplaced}
use Rattle.elf_load.specs.Paging.{segment_byte}
use Rattle.elf_load.proofs.Segments.{IsPlaced, is_placed, segment_byte-in, segment_byte-below, segment_byte-above}
use Rattle.std.proofs.lemmas.Bool.{cases_lt}
use borrow.Rule.Slice.PartMut.{put_mid}

-- an array of zeros
pub slice_index-zeros : (n j : ℕ) → slice_index (replicate n 0) j ≡ 0
slice_index-zeros n j = elim (cases_lt j n) [
  | inl below ↦ get_or-replicate n j 0 0 below
  | inr past ↦ get_or_past (replicate n 0) j 0 (omega (arith, length-replicate {A = ℕ} n 0))
]

-- a byte of a part, of the bytes before it, and of those after it
part-in : (xs ys : List ℕ) (at size j : ℕ) → at + size ≤ length xs → length ys ≡ size → at ≤ j → j < at + size → slice_index (put_mid at size xs ys) j ≡ slice_index ys (j - at)
part-in xs ys at size j fits many from to =
    get_or-append_right (take at xs) (ys ++ drop size (drop at xs)) at j 0 (length-take-le at xs (omega arith)) from
    ∙ get_or_append_left ys (drop size (drop at xs)) 0 (j - at) (omega arith)

part-before : (xs ys : List ℕ) (at size j : ℕ) → at ≤ length xs → j < at → slice_index (put_mid at size xs ys) j ≡ slice_index xs j
part-before xs ys at size j fits before =
    let many = length-take-le at xs fits in
    get_or_append_left (take at xs) (ys ++ drop size (drop at xs)) 0 j (omega arith) ∙ get_or-take at xs j 0 before

part-after : (xs ys : List ℕ) (at size j : ℕ) → at + size ≤ length xs → length ys ≡ size → at + size ≤ j → slice_index (put_mid at size xs ys) j ≡ slice_index xs j
part-after xs ys at size j fits many after =
    let place : at + (size + (j - at - size)) ≡ j = omega arith in
    get_or-append_right (take at xs) (ys ++ drop size (drop at xs)) at j 0 (length-take-le at xs (omega arith)) (omega arith)
    ∙ get_or-append_right ys (drop size (drop at xs)) size (j - at) 0 many (omega arith)
    ∙ get_or-drop size (drop at xs) (j - at - size) 0 ∙ get_or-drop at xs (size + (j - at - size)) 0
    ∙ ap (λ (k : ℕ). slice_index xs k) place

-- a page of zeros into which the part of the file was copied that a segment has there
pub filled : (page file part : List ℕ) (h : ProgramHeader) (start from to j : ℕ) → j < 4096 → length page ≡ 4096 → ((k : ℕ) → slice_index page k ≡ 0) → is_load h ≡ true → is_misplaced (length file) h ≡ false
    → from ≡ max h.vaddr start → to ≡ min (h.vaddr + h.filesz) (start + 4096) → from < to
    → part ≡ take (h.offset + (from - h.vaddr) + (to - from) - (h.offset + (from - h.vaddr))) (drop (h.offset + (from - h.vaddr)) file)
    → slice_index (put_mid (from - start) (from - start + (to - from) - (from - start)) page part) j ≡ segment_byte file h (start + j)
filled page file part h start from to j below size zero load placed from_is to_is some copied =
    let p = is_placed (length file) h load placed in
    let at : ℕ = from - start in
    let more : ℕ = from - start + (to - from) - (from - start) in
    let source : ℕ = h.offset + (from - h.vaddr) in
    let read : ℕ = source + (to - from) - source in
    let low : h.vaddr ≤ from = omega arith in
    let from_start : start ≤ from = omega arith in
    let low_is : (from ≡ h.vaddr) ⊎ (from ≡ start) = grind arith in
    let high : to ≤ h.vaddr + h.filesz = omega arith in
    let high_page : to ≤ start + 4096 = omega arith in
    let high_is : (to ≡ h.vaddr + h.filesz) ⊎ (to ≡ start + 4096) = grind arith in
    let inside : source + read ≤ length file = omega (arith, IsPlaced.in_file p) in
    let many : length part ≡ more = ap length copied ∙ length-take-le read (drop source file) (omega (arith, length-drop source file)) ∙ omega arith in
    elim (cases_lt j at) [
      | inl before ↦ part-before page part at more j (omega arith) before ∙ zero j ∙ sym (segment_byte-below file h (start + j) (omega arith))
      | inr from_at ↦ elim (cases_lt j (at + more)) [
        | inl within ↦
            let place : source + (j - at) ≡ h.offset + (start + j - h.vaddr) = omega arith in
            part-in page part at more j (omega arith) many from_at within
            ∙ ap (λ (bytes : List ℕ). slice_index bytes (j - at)) copied
            ∙ get_or-take read (drop source file) (j - at) 0 (omega arith) ∙ get_or-drop source file (j - at) 0
            ∙ ap (λ (k : ℕ). slice_index file k) place
            ∙ sym (segment_byte-in file h (start + j) load (omega arith) (omega arith))
        | inr past ↦ part-after page part at more j (omega arith) many past ∙ zero j ∙ sym (segment_byte-above file h (start + j) (omega arith))
      ]
    ]
