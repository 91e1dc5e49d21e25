-- The fields of the written file, as they are read again.
use Rattle.std.proofs.Common.{◌≡◌, ℕ, ◌+◌, ◌*◌, ◌^◌, ◌<◌, List, [], ◌∷◌, ◌++◌, length, drop, map, refl, sym, ap, ◌∙◌, arith, append_assoc, length-append}
use Rattle.std.specs.List.{flat_map, range_with_len}
use Rattle.std.proofs.lemmas.List.{drop_at}
use Rattle.byte_views.specs.Words.{word_at}
use Rattle.byte_views.proofs.Laws.{word_at-bytes, word_at-drop}
use Rattle.elf_load.specs.declared.program_headers.ProgramHeader.{ProgramHeader}
use Rattle.elf_load.specs.Fields.{ei_mag, ei_class, ei_data, ei_version, e_type, e_machine, e_version, e_entry, e_phoff, e_flags, e_phentsize, e_phnum, program_header}
use Rattle.elf_make.specs.Layout.{field, file_header, header_end, header_start, table_entry}

pub length-file_header : (entry flags count : ℕ) → length (file_header entry flags count) ≡ 64
unfolding field header_start header_end
length-file_header entry flags count = refl

pub length-table_entry : (h : ProgramHeader) → length (table_entry h) ≡ 56
unfolding field table_entry
length-table_entry h = refl

-- a number that stands alone
word_read : (size value : ℕ) → value < 256 ^ size → word_at (field size value ++ []) 0 size ≡ value
unfolding field
word_read size value fits = word_at-bytes value size [] fits

-- the constant fields of the file header
pub record HasHeader (file : List ℕ) (entry flags count : ℕ) : Type 0 where
  pub magic : ei_mag file ≡ 0x464C457F
  pub class : ei_class file ≡ 2
  pub encoding : ei_data file ≡ 1
  pub version : ei_version file ≡ 1
  pub kind : e_type file ≡ 2
  pub machine : e_machine file ≡ 243
  pub file_version : e_version file ≡ 1
  pub entry_is : e_entry file ≡ entry
  pub offset : e_phoff file ≡ 64
  pub flags_are : e_flags file ≡ flags
  pub entry_size : e_phentsize file ≡ 56
  pub count_is : e_phnum file ≡ count

pub has_header : (entry flags count : ℕ) (rest : List ℕ) → entry < 256 ^ 8 → flags < 256 ^ 4 → count < 256 ^ 2 → HasHeader (file_header entry flags count ++ rest) entry flags count
unfolding word_at field header_start header_end
has_header entry flags count rest entry_fits flags_fits count_fits = record {
  magic = refl;
  class = refl;
  encoding = refl;
  version = refl;
  kind = refl;
  machine = refl;
  file_version = refl;
  entry_is = word_read 8 entry entry_fits;
  offset = refl;
  flags_are = word_read 4 flags flags_fits;
  entry_size = refl;
  count_is = word_read 2 count count_fits;
}

-- a program header whose fields fit
pub record Fits (h : ProgramHeader) : Type 0 where
  pub kind : h.kind < 256 ^ 4
  pub flags : h.flags < 256 ^ 4
  pub offset : h.offset < 256 ^ 8
  pub vaddr : h.vaddr < 256 ^ 8
  pub filesz : h.filesz < 256 ^ 8
  pub memsz : h.memsz < 256 ^ 8

header_same : (g h : ProgramHeader) → g.kind ≡ h.kind → g.flags ≡ h.flags → g.offset ≡ h.offset → g.vaddr ≡ h.vaddr → g.filesz ≡ h.filesz → g.memsz ≡ h.memsz → g ≡ h
header_same g h kind flags offset vaddr filesz memsz =
    let make : ℕ → ℕ → ℕ → ℕ → ℕ → ℕ → ProgramHeader = λ (a : ℕ) (b : ℕ) (c : ℕ) (d : ℕ) (e : ℕ) (f : ℕ). record { kind = a; flags = b; offset = c; vaddr = d; filesz = e; memsz = f } in
    ap (λ (x : ℕ). make x g.flags g.offset g.vaddr g.filesz g.memsz) kind
    ∙ ap (λ (x : ℕ). make h.kind x g.offset g.vaddr g.filesz g.memsz) flags
    ∙ ap (λ (x : ℕ). make h.kind h.flags x g.vaddr g.filesz g.memsz) offset
    ∙ ap (λ (x : ℕ). make h.kind h.flags h.offset x g.filesz g.memsz) vaddr
    ∙ ap (λ (x : ℕ). make h.kind h.flags h.offset h.vaddr x g.memsz) filesz
    ∙ ap (λ (x : ℕ). make h.kind h.flags h.offset h.vaddr h.filesz x) memsz

entry_read : (h : ProgramHeader) (rest : List ℕ) → Fits h → program_header (table_entry h ++ rest) 0 ≡ h
unfolding word_at field table_entry
entry_read h rest fits = header_same (program_header (table_entry h ++ rest) 0) h
    (word_read 4 h.kind fits.kind) (word_read 4 h.flags fits.flags) (word_read 8 h.offset fits.offset) (word_read 8 h.vaddr fits.vaddr) (word_read 8 h.filesz fits.filesz) (word_read 8 h.memsz fits.memsz)

-- a program header at a place is that at the front of what follows
header-drop : (file : List ℕ) (at : ℕ) → program_header file at ≡ program_header (drop at file) 0
header-drop file at = header_same (program_header file at) (program_header (drop at file) 0)
    (let place : at + 0 ≡ at = omega arith in ap (λ (k : ℕ). word_at file k 4) (sym place) ∙ sym (word_at-drop file at 0 4))
    (sym (word_at-drop file at 4 4)) (sym (word_at-drop file at 8 8)) (sym (word_at-drop file at 16 8)) (sym (word_at-drop file at 32 8)) (sym (word_at-drop file at 40 8))

-- all of a list
abbrev pub AllFit : List ProgramHeader → Type 0
AllFit [] = Unit {0}
AllFit (h ∷ hs) = Fits h × AllFit hs

pub table_read : (hs : List ProgramHeader) (front rest : List ℕ) (k : ℕ) → AllFit hs → length front ≡ 64 + 56 * k → map (λ i. program_header (front ++ (flat_map table_entry hs ++ rest)) (64 + 56 * i)) (range_with_len k (length hs)) ≡ hs
table_read [] front rest k fits at = refl
table_read (h ∷ hs) front rest k fits at =
    let after : List ℕ = flat_map table_entry hs ++ rest in
    let file : List ℕ = front ++ (flat_map table_entry (h ∷ hs) ++ rest) in
    let split : flat_map table_entry (h ∷ hs) ++ rest ≡ table_entry h ++ after = append_assoc (table_entry h) (flat_map table_entry hs) rest in
    let behind : drop (64 + 56 * k) file ≡ table_entry h ++ after = drop_at front (flat_map table_entry (h ∷ hs) ++ rest) (64 + 56 * k) at ∙ split in
    let head : program_header file (64 + 56 * k) ≡ h = header-drop file (64 + 56 * k) ∙ ap (λ (l : List ℕ). program_header l 0) behind ∙ entry_read h after fits.0 in
    let regrouped : file ≡ (front ++ table_entry h) ++ after = ap (λ (l : List ℕ). front ++ l) split ∙ sym (append_assoc front (table_entry h) after) in
    let more : length (front ++ table_entry h) ≡ 64 + 56 * (k + 1) = omega (arith, length-append front (table_entry h), length-table_entry h) in
    let tail : map (λ i. program_header file (64 + 56 * i)) (range_with_len (k + 1) (length hs)) ≡ hs =
    ap (λ (l : List ℕ). map (λ i. program_header l (64 + 56 * i)) (range_with_len (k + 1) (length hs))) regrouped ∙ table_read hs (front ++ table_entry h) rest (k + 1) fits.1 more in
    ap (λ (g : ProgramHeader). g ∷ map (λ i. program_header file (64 + 56 * i)) (range_with_len (k + 1) (length hs))) head ∙ ap (λ (l : List ProgramHeader). h ∷ l) tail
