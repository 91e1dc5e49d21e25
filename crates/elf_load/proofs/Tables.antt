-- Where the program header table stands in memory.
use Rattle.std.proofs.Common.{◌≡◌, ℕ, ◌+◌, ◌-◌, ◌*◌, ◌<◌, ◌≤◌, true, false, List, length, get_or, unwrap_or, refl, sym, ap, ◌∙◌, arith}
use Rattle.std.specs.List.{find}
use Rattle.std.specs.Option.{option_map}
use Rattle.std.proofs.lemmas.Bool.Decides.{nat_tests}
use Rattle.elf_load.specs.declared.program_headers.ProgramHeader.{ProgramHeader}
use Rattle.elf_load.specs.Fields.{e_phoff, e_phnum, is_load, program_headers}
use Rattle.elf_load.specs.Faults.{is_misplaced}
use Rattle.elf_load.specs.Images.{holds, table_address}
use Rattle.elf_load.proofs.Segments.{IsPlaced, is_placed}
use Rattle.elf_load.proofs.Lists.{find-at, find-none}

-- a segment that holds a part of the file, in numbers
pub record Holds (offset size : ℕ) (h : ProgramHeader) : Type 0 where
  pub load : is_load h ≡ true
  pub from : h.offset ≤ offset
  pub to : offset + size ≤ h.offset + h.filesz

pub holds_is : (offset size : ℕ) (h : ProgramHeader) → holds offset size h ≡ true → Holds offset size h
holds_is offset size h e = record { load = grind (arith, nat_tests); from = grind (arith, nat_tests); to = grind (arith, nat_tests) }

-- the address of such a part is small
pub holds_below : (n offset size : ℕ) (h : ProgramHeader) → is_misplaced n h ≡ false → holds offset size h ≡ true → h.vaddr + (offset - h.offset) ≤ 137438953472
holds_below n offset size h placed e =
    let part = holds_is offset size h e in
    let p = is_placed n h (Holds.load part) placed in
    omega (arith, Holds.from part, Holds.to part, IsPlaced.in_memory p, IsPlaced.below p)

pub table_address-at : (file : List ℕ) (headers : List ProgramHeader) (i : ℕ) (d : ProgramHeader) (offset size : ℕ) → headers ≡ program_headers file → offset ≡ e_phoff file → size ≡ 56 * e_phnum file → i < length headers
    → holds offset size (get_or headers i d) ≡ true → ((k : ℕ) → k < i → holds offset size (get_or headers k d) ≡ false)
    → (get_or headers i d).vaddr + (offset - (get_or headers i d).offset) ≡ table_address file
unfolding table_address
table_address-at file headers i d offset size table offset_is size_is lt here before =
    let at : ℕ → ℕ → List ProgramHeader → ℕ = λ o s hs. unwrap_or (option_map (λ h. h.vaddr + o - h.offset) (find (holds o s) hs)) 0 in
    let found : at offset size headers ≡ (get_or headers i d).vaddr + offset - (get_or headers i d).offset = rw (find-at (holds offset size) headers i d lt here before) refl in
    let from = Holds.from (holds_is offset size (get_or headers i d) here) in
    let same : (get_or headers i d).vaddr + (offset - (get_or headers i d).offset) ≡ (get_or headers i d).vaddr + offset - (get_or headers i d).offset = omega (arith, from) in
    same ∙ sym found ∙ ap (λ (o : ℕ). at o size headers) offset_is ∙ ap (λ (s : ℕ). at (e_phoff file) s headers) size_is ∙ ap (λ (hs : List ProgramHeader). at (e_phoff file) (56 * e_phnum file) hs) table

pub table_address-none : (file : List ℕ) (headers : List ProgramHeader) (d : ProgramHeader) (offset size : ℕ) → headers ≡ program_headers file → offset ≡ e_phoff file → size ≡ 56 * e_phnum file
    → ((k : ℕ) → k < length headers → holds offset size (get_or headers k d) ≡ false) → 0 ≡ table_address file
unfolding table_address
table_address-none file headers d offset size table offset_is size_is never =
    let at : ℕ → ℕ → List ProgramHeader → ℕ = λ o s hs. unwrap_or (option_map (λ h. h.vaddr + o - h.offset) (find (holds o s) hs)) 0 in
    let found : at offset size headers ≡ 0 = rw (find-none (holds offset size) headers d never) refl in
    sym found ∙ ap (λ (o : ℕ). at o size headers) offset_is ∙ ap (λ (s : ℕ). at (e_phoff file) s headers) size_is ∙ ap (λ (hs : List ProgramHeader). at (e_phoff file) (56 * e_phnum file) hs) table
