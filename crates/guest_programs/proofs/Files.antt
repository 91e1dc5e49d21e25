-- The file of a guest, from what its parts are.
use Rattle.std.proofs.Common.{◌≡◌, ℕ, ◌+◌, ◌-◌, ◌*◌, ◌<◌, ◌≤◌, ◌^◌, List, [], ◌∷◌, ◌++◌, length, replicate, map}
use Rattle.std.proofs.Common.{◌⊎◌, inl, inr, None, refl, sym, ap, subst, ◌∙◌, arith, Some, None, cond, false, All, nat_lt, length-append}
use Rattle.std.proofs.lemmas.Bool.{le-ltb}
use Rattle.std.proofs.lemmas.List.{length-replicate}
use Rattle.std.specs.List.{flat_map}
use Rattle.std.specs.Int.{to_le_bytes, w64}
use Rattle.elf_load.specs.declared.fault.ElfFault.TheVariants.{TooLarge}
use Rattle.elf_load.specs.declared.image.Image.{Image}
use Rattle.elf_load.specs.declared.program_headers.ProgramHeader.{ProgramHeader}
use Rattle.elf_load.specs.Faults.{frames_needed}
use Rattle.elf_load.specs.Images.{IsImage}
use Rattle.elf_make.specs.Layout.{contents_from, contents_start, file_header, file_of, place_from, placed_from, table_entry}
use Rattle.elf_make.specs.Parts.{ArePagesOf, IsImageOf, NeedsFrames, segment_of}
use Rattle.elf_make.specs.Refusals.{refusal, segments_of}
use Rattle.elf_make.specs.declared.parts.MakeFault.{MakeFault}
use Rattle.elf_make.specs.declared.parts.MakeFault.TheVariants.{BadParts, NoMemory}
use Rattle.elf_make.specs.declared.parts.Part.{Part}
use Rattle.elf_make.specs.declared.parts.Parts.{Parts}
use Rattle.elf_make.proofs.Reading.{length-file_header, length-table_entry}
use Rattle.rv_asm.specs.Assembly.{AreAssembled, Assembly, empty}
use Rattle.percpu_lib.specs.Lines.{AreEmitted}
use Rattle.guest_names.specs.declared.names.Name.{Name}
use Rattle.guest_programs.specs.Guests.{HoldsBlocks, IsGuestFile}
use Rattle.guest_programs.specs.Programs.{data_bytes, data_words}
use Rattle.guest_programs.specs.Steps.{guest_lines}
use Rattle.guest_programs.specs.declared.layout.TheConstants.{CODE}
use Rattle.guest_programs.specs.declared.labels.TheConstants.{LABELS}
use Rattle.guest_programs.proofs.Blocks.{Read, code_stands, few_words, holds, model, words_are}
use Rattle.guest_programs.proofs.Words.{AreData, word_is}
use Rattle.guest_programs.specs.Blocks.{start_word}
use Rattle.guest_programs.proofs.Fetched.{AreCode, fetched_is, length_encoded}
use Rattle.guest_programs.proofs.Pages.{code_byte_at, data_byte_at}

-- ---- how long the file is

place_near : (end at : ℕ) → place_from end at ≤ end + 4096
place_near end at = omega arith

padded_long : (k : ℕ) (bytes rest : List ℕ) → length (replicate k 0 ++ bytes ++ rest) ≡ k + length bytes + length rest
padded_long k bytes rest =
    length-append (replicate k 0 ++ bytes) rest
    ∙ ap (λ m. m + length rest) (length-append (replicate k 0) bytes
    ∙ ap (λ m. m + length bytes) (length-replicate {A = ℕ} k 0))

bytes_behind : (end at : ℕ) (bytes rest : List ℕ)
    → length (replicate (place_from end at - end) 0 ++ bytes ++ rest) ≤ 4096 + length bytes + length rest
bytes_behind end at bytes rest =
    let near = place_near end at in
    let long = padded_long (place_from end at - end) bytes rest in
    omega arith

contents_short : (end : ℕ) (c d : Part)
    → length (contents_from end (c ∷ d ∷ [])) ≤ 8192 + length c.bytes.items + length d.bytes.items
contents_short end c d =
    let next = place_from end c.at + length c.bytes.items in
    let one = bytes_behind end c.at c.bytes.items (contents_from next (d ∷ [])) in
    let two = bytes_behind next d.at d.bytes.items [] in
    omega arith

table_short : (g h : ProgramHeader) → length (flat_map table_entry (g ∷ h ∷ [])) ≡ 112
table_short g h =
    let one = length-append (table_entry g) (table_entry h ++ []) in
    let two = length-append (table_entry h) [] in
    let first = length-table_entry g in
    let second = length-table_entry h in
    omega arith

pub file_short : (c d : Part) (parts : Parts) → parts.segments.items ≡ c ∷ d ∷ [] → length c.bytes.items ≤ 4096
    → length d.bytes.items ≤ 4096 → length (file_of parts) ≤ 8388608
unfolding file_of
file_short c d parts segments first second =
    subst (λ (ps : List Part). length (file_header parts.entry parts.flags (length ps) ++ flat_map table_entry (placed_from (contents_start ps) ps) ++ contents_from (contents_start ps) ps) ≤ 8388608)
    (sym segments) short
  where
    two : List Part
    two = c ∷ d ∷ []

    short : length (file_header parts.entry parts.flags 2 ++ flat_map table_entry (placed_from (contents_start (c ∷ d ∷ [])) (c ∷ d ∷ [])) ++ contents_from (contents_start (c ∷ d ∷ [])) (c ∷ d ∷ [])) ≤ 8388608
    short =
        let head = file_header parts.entry parts.flags 2 in
        let table = flat_map table_entry (placed_from (contents_start (c ∷ d ∷ [])) (c ∷ d ∷ [])) in
        let rest = contents_from (contents_start (c ∷ d ∷ [])) (c ∷ d ∷ []) in
        let one = length-append (head ++ table) rest in
        let both = length-append head table in
        let front : length head ≡ 64 = length-file_header parts.entry parts.flags 2 in
        let middle : length table ≡ 112 = table_short _ _ in
        let behind : length rest ≤ 8192 + length c.bytes.items + length d.bytes.items =
        contents_short (contents_start (c ∷ d ∷ [])) c d in
        omega arith

-- ---- how long the parts are

pub code_fits : (name : Name) (asm : Assembly) (bytes : List ℕ) → AreEmitted (guest_lines name) (empty CODE LABELS) asm
    → AreAssembled asm.labels asm.items bytes → length bytes ≤ 4096
code_fits name asm bytes emitted code =
    let few = few_words name asm emitted in
    let long : length bytes ≡ 4 * length code.words = ap length code.bytes_are ∙ length_encoded code.words in
    let count = code.count in
    omega arith

pub data_fits : (asm : Assembly) (n : ℕ) (bytes : List ℕ) → bytes ≡ data_bytes asm n → length bytes ≤ 0x30000
data_fits asm n bytes is =
    let long : length bytes ≡ 96 = ap length is in
    omega arith

-- ---- the file

module _ (name : Name) (n : ℕ) (asm : Assembly) (c d : Part) (parts : Parts) (file : List ℕ)
    (segments : parts.segments.items ≡ c ∷ d ∷ []) (c_at : c.at ≡ 0x10000) (c_size : c.memsz ≡ 0x1000)
    (c_perm : c.perm ≡ 5) (d_at : d.at ≡ 0x20000) (d_size : d.memsz ≡ 0x30000)
    (emitted : AreEmitted (guest_lines name) (empty CODE LABELS) asm)
    (code : AreAssembled asm.labels asm.items c.bytes.items) (data_is : d.bytes.items ≡ data_bytes asm n)
    (d_perm : d.perm ≡ 6) (entry : parts.entry ≡ CODE) (flags : parts.flags ≡ 16) (fits : n < 2 ^ 64) (image_of : (image : Image) → IsImage file image → IsImageOf parts image) where
  code_short : length c.bytes.items ≤ 4096
  code_short = code_fits name asm c.bytes.items emitted code

  data_long : length d.bytes.items ≡ 96
  data_long = ap length data_is

  are_pages : (image : Image) → IsImage file image → ArePagesOf (c ∷ d ∷ []) image.pages.items
  are_pages image is = subst (λ (ps : List Part). ArePagesOf ps image.pages.items) segments (image_of image is).pages

  are_code : (image : Image) → IsImage file image → AreCode image.pages.items c.bytes.items
  are_code image is j lt =
      code_byte_at c d image.pages.items (are_pages image is) c_at c_size c_perm d_at d_size code_short j lt

  are_data : (image : Image) → IsImage file image → AreData image.pages.items d.bytes.items
  are_data image is j lt =
      data_byte_at c d image.pages.items (are_pages image is) c_at c_size c_perm d_at d_size code_short j lt
      (omega (arith, data_long))

  read : (image : Image) → IsImage file image → Read image.pages.items (data_words (model name) n)
  read image is =
      word_is image.pages.items d.bytes.items (data_words (model name) n) (are_data image is)
      (data_is ∙ ap (flat_map (λ w. to_le_bytes w64 w)) (words_are name asm n emitted)) (omega arith)

  blocks_held : (image : Image) → IsImage file image → HoldsBlocks name image.pages.items
  blocks_held image is =
      holds name n image.pages.items (code_stands name asm c.bytes.items image.pages.items emitted code
      (fetched_is image.pages.items c.bytes.items code.words (are_code image is) code.bytes_are code.have_32_bits))
      (read image is)

  size_told : (image : Image) → IsImage file image → start_word image.pages.items 0x20000 ≡ Some n
  size_told image is = read image is 0 n refl fits

  needed : frames_needed (segments_of parts) ≡ 114
  needed = ap (λ (ps : List Part). frames_needed (map segment_of ps)) segments ∙ (rw (c_at, c_size, d_at, d_size) refl)

  pub guest_file : file ≡ file_of parts → NeedsFrames file (frames_needed (segments_of parts))
      → All (λ b. b < 256) file → IsGuestFile name n file
  guest_file is frames bytes = record {
    small = subst (λ (xs : List ℕ). length xs ≤ 8388608) (sym is)
        (file_short c d parts segments code_short (omega (arith, data_long)));
    are_bytes = bytes;
    exact = record {
      asm = asm;
      emitted = emitted;
      code = c.bytes.items;
      assembled = code;
      parts = parts;
      code_part = c;
      data_part = d;
      segments = segments;
      code_is = record { begins = c_at; allowed = c_perm; holds = refl; size = c_size };
      data_is = record { begins = d_at; allowed = d_perm; holds = data_is; size = d_size };
      entry = entry;
      flags = flags;
      bytes = is;
    };
    taken = frames 4096 ∙ ap (λ m. cond (nat_lt 4096 m) (Some (TooLarge m)) None) needed;
    told = size_told;
    holds = blocks_held;
  }

-- ---- no part is refused

same_length : (n : ℕ) → nat_lt n (0 + n) ≡ false
same_length n = le-ltb n (0 + n) (omega arith)

pub not_refused : (c d : Part) (parts : Parts) → parts.segments.items ≡ c ∷ d ∷ [] → parts.entry ≡ 0x10000
    → parts.flags ≡ 16 → c.at ≡ 0x10000 → c.memsz ≡ 0x1000 → c.perm ≡ 5 → d.at ≡ 0x20000 → d.memsz ≡ 0x30000
    → d.perm ≡ 6 → length c.bytes.items ≤ 0x1000 → length d.bytes.items ≤ 0x30000 → refusal parts ≡ None
unfolding refusal
not_refused c d parts segments entry flags c_at c_size c_perm d_at d_size d_perm short_code short_data =
    rw (segments, entry, flags, c_at, c_size, c_perm, d_at, d_size, d_perm, le-ltb 0x1000 (length c.bytes.items) short_code, le-ltb 0x30000 (length d.bytes.items) short_data, same_length (length c.bytes.items), same_length (length d.bytes.items)) refl

pub never_bad : (fault : MakeFault) (k : ℕ) (parts : Parts) → fault ≡ BadParts k → refusal parts ≡ None
    → (fault ≡ NoMemory) ⊎ (refusal parts ≡ Some fault) → ⊥
never_bad fault k parts bad none (inl short) = absurd cc
never_bad fault k parts bad none (inr some) = absurd cc
