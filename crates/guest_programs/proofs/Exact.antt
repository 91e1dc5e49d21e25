-- The code of a guest's file stands in the memory with which its program starts.
use Rattle.std.proofs.Common.{◌≡◌, ℕ, ◌+◌, ◌/◌, ◌<◌, ◌≤◌, List, [], ◌∷◌, length, refl, sym, ap, ◌∙◌, arith}
use Rattle.std.proofs.Common.{subst, slice_index, All, Some, None, true, unwrap_or, zero, suc, get_or}
use Rattle.std.specs.List.{find}
use Rattle.std.proofs.lemmas.Bool.{le-leb, lt-ltb}
use Rattle.std.specs.Option.{option_map}
use Rattle.mach_types.specs.Kernel.Pages.{can_execute}
use Rattle.mach_types.specs.declared.address_space.TheConstants.{PAGE_SIZE}
use Rattle.elf_load.specs.Fields.{has_page}
use Rattle.elf_load.specs.Images.{byte_of_segment, covers, memory_byte, page_permission, permission}
use Rattle.elf_load.specs.declared.program_headers.ProgramHeader.{ProgramHeader}
use Rattle.elf_make.specs.Layout.{contents_start, placed_from}
use Rattle.elf_make.specs.Parts.{byte_of_part, parts_byte, parts_permission, segment_of}
use Rattle.elf_make.specs.Refusals.{refusal}
use Rattle.elf_make.specs.declared.parts.Part.{Part}
use Rattle.elf_make.proofs.Accepting.{IsWritten, written_file}
use Rattle.elf_make.proofs.Standing.{stand-byte, stand-permission}
use Rattle.percpu_lib.specs.Files.{HoldsCode}
use Rattle.guest_names.specs.declared.names.Name.{Name}
use Rattle.guest_programs.specs.Programs.{IsGuestElf}
use Rattle.guest_programs.proofs.Files.{code_fits, file_short, not_refused}

-- the byte of the memory of two parts, and the permission of the page of the first
pub code_part_byte : (c d : Part) (k : ℕ) → c.at ≡ 0x10000 → k < length c.bytes.items
    → parts_byte (c ∷ d ∷ []) (0x10000 + k) ≡ get_or c.bytes.items k 0
unfolding parts_byte
code_part_byte c d k from lt =
    rw (from, le-leb 0x10000 (0x10000 + k) (omega arith), lt-ltb (0x10000 + k) (0x10000 + length c.bytes.items) (omega arith))
    (ap (λ m. get_or c.bytes.items m 0) (omega arith))

pub code_part_permission : (c d : Part) → c.at ≡ 0x10000 → c.memsz ≡ 0x1000 → c.perm ≡ 5
    → parts_permission (c ∷ d ∷ []) 16 ≡ 5
unfolding parts_permission
code_part_permission c d from size may = rw (from, size, may) refl

-- the code stands from its first address on, and may be executed
module _ (name : Name) (n : ℕ) (file : List ℕ) (elf : IsGuestElf name n file) where
  pub short : length elf.code ≤ 4096
  short = code_fits name elf.asm elf.code elf.emitted elf.assembled

  pub held : elf.code_part.bytes.items ≡ elf.code
  held = elf.code_is.holds

  pub code_short : length elf.code_part.bytes.items ≤ 4096
  code_short = subst (λ (xs : List ℕ). length xs ≤ 4096) (sym held) short

  pub data_short : length elf.data_part.bytes.items ≡ 96
  data_short = ap length elf.data_is.holds

  good : refusal elf.parts ≡ None
  good =
      not_refused elf.code_part elf.data_part elf.parts elf.segments elf.entry elf.flags elf.code_is.begins
      elf.code_is.size elf.code_is.allowed elf.data_is.begins elf.data_is.size elf.data_is.allowed code_short
      (omega (arith, data_short))

  small : length file ≤ 8388608
  small =
      subst (λ (xs : List ℕ). length xs ≤ 8388608) (sym elf.bytes)
      (file_short elf.code_part elf.data_part elf.parts elf.segments code_short (omega (arith, data_short)))

  abbrev pub segments : List Part
  segments = elf.parts.segments.items

  abbrev pub two : List Part
  two = elf.code_part ∷ elf.data_part ∷ []

  code_flags : elf.code_part.perm < 256
  code_flags = omega (arith, elf.code_is.allowed)

  data_flags : elf.data_part.perm < 256
  data_flags = omega (arith, elf.data_is.allowed)

  low_flags : All (λ (h : ProgramHeader). h.flags < 256) (placed_from (contents_start two) two)
  low_flags zero d lt = code_flags
  low_flags (suc zero) d lt = data_flags
  low_flags (suc (suc k)) d lt = absurd (omega arith)

  pub written : IsWritten elf.parts file
  written =
      written_file elf.parts file segments (placed_from (contents_start segments) segments) good
      (omega (arith, elf.entry)) (omega (arith, elf.flags)) refl refl
      (subst (λ (ps : List Part). All (λ (h : ProgramHeader). h.flags < 256) (placed_from (contents_start ps) ps))
      (sym elf.segments) low_flags) elf.bytes (omega (arith, small))

  pub byte_is : (a : ℕ) → memory_byte file a ≡ parts_byte two a
  unfolding memory_byte parts_byte
  byte_is a =
      ap (λ (hs : List ProgramHeader). byte_of_segment file a (find (covers a) hs)) written.table
      ∙ stand-byte file a written.headers segments written.stand
      ∙ ap (λ (ps : List Part). byte_of_part a (find (λ p. covers a (segment_of p)) ps)) elf.segments

  pub permission_is : (m : ℕ) → page_permission file m ≡ parts_permission two m
  unfolding page_permission parts_permission
  permission_is m =
      ap (λ (hs : List ProgramHeader). unwrap_or (option_map permission (find (has_page m) hs)) 0) written.table
      ∙ stand-permission file m written.headers segments written.stand
      ∙ ap (λ (ps : List Part). unwrap_or (option_map (λ p. permission (segment_of p))
      (find (λ p. has_page m (segment_of p)) ps)) 0) elf.segments

  code_byte : (k : ℕ) → k < length elf.code → memory_byte file (0x10000 + k) ≡ slice_index elf.code k
  code_byte k lt =
      byte_is (0x10000 + k)
      ∙ code_part_byte elf.code_part elf.data_part k elf.code_is.begins (subst (λ (xs : List ℕ). k < length xs) (sym held) lt)
      ∙ ap (λ (xs : List ℕ). get_or xs k 0) held

  code_may : (k : ℕ) → k < length elf.code
      → can_execute (Some (page_permission file ((0x10000 + k) / PAGE_SIZE))) ≡ true
  code_may k lt =
      let page : (0x10000 + k) / 4096 ≡ 16 = omega (arith, short) in
      ap (λ m. can_execute (Some (page_permission file m))) page
      ∙ ap (λ m. can_execute (Some m)) (permission_is 16 ∙ code_part_permission elf.code_part elf.data_part
      elf.code_is.begins elf.code_is.size elf.code_is.allowed)

  pub code_held : HoldsCode file 0x10000 elf.code
  code_held = record {
    aligned = refl;
    low = omega (arith, short);
    bytes_are = code_byte;
    executable = code_may;
  }
