-- The written file has no fault but the want of frames, and its image is that of the parts.
use Rattle.std.proofs.Common.{◌≡◌, ℕ, suc, ◌+◌, ◌*◌, ◌%◌, ◌^◌, ◌<◌, ◌≤◌, ◌⊎◌, ◌↔◌, inl, inr, Bool, true, false, not, ◌||◌, ◌&&◌, ◌==◌, cond, IsTrue, List, [], ◌∷◌, ◌++◌, length, get_or, take, map, nat_lt, All, Contains, Option, Some, None, unwrap_or, refl, sym, ap, subst, ◌∙◌, arith, append_assoc, length-append}
use Rattle.std.specs.List.{enumerate_from, find, flat_map, list_any, position, range_with_len}
use Rattle.std.specs.Option.{option_map}
use Rattle.std.proofs.lemmas.Bool.Decides.{nat_tests}
use Rattle.std.proofs.lemmas.List.{get_or_default, get_or-take, length-take-le}
use Rattle.std.proofs.lemmas.List.Folds.{list_any_none}
use Rattle.elf_load.specs.declared.fault.ElfFault.{ElfFault}
use Rattle.elf_load.specs.declared.fault.ElfFault.TheVariants.{Short, Magic, Class, Endian, Version, FileKind, Machine, Flags, Headers, Dynamic, Segment, Align, WritableCode, Overlap, Entry, TooLarge}
use Rattle.elf_load.specs.declared.image.Image.{Image}
use Rattle.elf_load.specs.declared.program_headers.ProgramHeader.{ProgramHeader}
use Rattle.elf_load.specs.Fields.{e_flags, e_machine, e_phentsize, e_type, e_version, ei_class, ei_data, ei_mag, e_phnum, e_phoff, has_page, is_dynamic, page_count, program_header, program_headers}
use Rattle.elf_load.specs.Faults.{first_fault, first_of, file_rows, frame_rows, frames_needed, has_bad_flags, has_bad_table, has_bad_version, has_code, is_bad_entry, is_misplaced, is_unaligned, is_writable_code, overlaps, row, segment_rows, share_page}
use Rattle.elf_load.specs.Images.{ArePages, IsImage, IsPage, byte_of_segment, covers, memory_byte, numbers, page_permission, permission}
use Rattle.elf_load.proofs.Laws.{fault-of_frames, first_overlap-none, position-none}
use Rattle.elf_make.specs.declared.parts.Part.{Part}
use Rattle.elf_make.specs.declared.parts.Parts.{Parts}
use Rattle.elf_make.specs.Parts.{IsImageOf, parts_byte, parts_permission, segment_of}
use Rattle.elf_make.specs.Layout.{contents_from, contents_start, file_header, file_of, place_from, placed_from, table_entry}
use Rattle.elf_make.specs.Refusals.{refusal, segments_of}
use Rattle.elf_make.proofs.Reading.{AllFit, Fits, HasHeader, has_header, length-file_header, length-table_entry, table_read}
use Rattle.elf_make.proofs.Refused.{AreGood, IsGood, are_good}
use Rattle.elf_make.proofs.Standing.{AllStand, Stands, all_stand, any-segments, stand-any, stand-at, stand-byte, stand-length, stand-permission, stand-sum, stands-same}

-- what the file is, as it is read
pub record IsWritten (parts : Parts) (file : List ℕ) : Type 0 where
  pub header : HasHeader file parts.entry parts.flags (length parts.segments.items)
  pub headers : List ProgramHeader
  pub table : program_headers file ≡ headers
  pub stand : AllStand file headers parts.segments.items
  pub long : 64 + 56 * length parts.segments.items ≤ length file

length-placed : (end : ℕ) (ps : List Part) → length (placed_from end ps) ≡ length ps
length-placed end [] = refl
length-placed end (p ∷ ps) = let rest = length-placed (place_from end p.at + length p.bytes.items) ps in omega arith

length-table : (hs : List ProgramHeader) → length (flat_map table_entry hs) ≡ 56 * length hs
length-table [] = refl
length-table (h ∷ hs) = let rest = length-table hs in omega (arith, length-append (table_entry h) (flat_map table_entry hs), length-table_entry h)

-- each program header fits its fields, in a file that isn't too long
stand-fit : (file : List ℕ) (hs : List ProgramHeader) (ps : List Part) → length file < 2 ^ 63 → AllStand file hs ps → All (λ h. h.flags < 256) hs → ((k : ℕ) (d : Part) → k < length ps → IsGood (get_or ps k d)) → AllFit hs
stand-fit file [] [] short all perms good = tt
stand-fit file [] (p ∷ ps) short all perms good = absurd all
stand-fit file (h ∷ hs) [] short all perms good = absurd all
stand-fit file (h ∷ hs) (p ∷ ps) short all perms good =
    (fit, stand-fit file hs ps short all.1 (λ k d lt. perms (suc k) d (omega arith)) (λ k d lt. good (suc k) d (omega arith)))
  where
    fit : Fits h
    fit =
        let g = good 0 p (omega arith) in
        let is = Stands.is all.0 in
        let perm : h.flags < 256 = perms 0 h (omega arith) in
        record {
          kind = omega (arith, ap (λ (x : ProgramHeader). x.kind) is);
          flags = omega arith;
          offset = omega (arith, Stands.inside all.0);
          vaddr = omega (arith, ap (λ (x : ProgramHeader). x.vaddr) is, IsGood.below g);
          filesz = omega (arith, ap (λ (x : ProgramHeader). x.filesz) is, IsGood.bytes g, IsGood.below g);
          memsz = omega (arith, ap (λ (x : ProgramHeader). x.memsz) is, IsGood.below g);
        }

pub written : (parts : Parts) → AreGood parts → parts.entry < 2 ^ 64 → parts.flags < 2 ^ 32 → All (λ h. h.flags < 256) (placed_from (contents_start parts.segments.items) parts.segments.items) → length (file_of parts) < 2 ^ 63 → IsWritten parts (file_of parts)
unfolding file_of program_headers
written parts good entry_fits flags_fits perms short =
    let ps : List Part = parts.segments.items in
    let n : ℕ = length ps in
    let hs : List ProgramHeader = placed_from (contents_start ps) ps in
    let first : List ℕ = file_header parts.entry parts.flags n in
    let table : List ℕ = flat_map table_entry hs in
    let contents : List ℕ = contents_from (contents_start ps) ps in
    let file : List ℕ = first ++ table ++ contents in
    let split : file ≡ first ++ (table ++ contents) = append_assoc first table contents in
    let first_long : length first ≡ 64 = length-file_header parts.entry parts.flags n in
    let front_long : length (first ++ table) ≡ contents_start ps = omega (arith, length-append first table, length-table hs, length-placed (contents_start ps) ps) in
    let few : n ≤ 64 = AreGood.few good in
    let stand : AllStand file hs ps = all_stand ps file (first ++ table) (contents_start ps) front_long refl in
    let header : HasHeader file parts.entry parts.flags n = subst (λ (l : List ℕ). HasHeader l parts.entry parts.flags n) (sym split) (has_header parts.entry parts.flags n (table ++ contents) (omega arith) (omega arith) (omega arith)) in
    let read : map (λ i. program_header (first ++ (table ++ contents)) (64 + 56 * i)) (range_with_len 0 (length hs)) ≡ hs = table_read hs first contents 0 (stand-fit file hs ps short stand perms (AreGood.each good)) (omega arith) in
    let all : ℕ → ℕ → List ℕ → List ProgramHeader = λ (o : ℕ) (m : ℕ) (l : List ℕ). map (λ i. program_header l (o + 56 * i)) (range_with_len 0 m) in
    record {
      header = header;
      headers = hs;
      table =
          ap (λ (o : ℕ). all o (e_phnum file) file) (HasHeader.offset header) ∙ ap (λ (m : ℕ). all 64 m file) (HasHeader.count_is header ∙ sym (length-placed (contents_start ps) ps))
          ∙ ap (all 64 (length hs)) split ∙ read;
      stand = stand;
      long = omega (arith, length-append (first ++ table) contents);
    }

-- rows without a fault
skip : (b : Bool) (fault : ElfFault) (rest : List (Option ElfFault)) → b ≡ false → first_of (row b fault ∷ rest) ≡ first_of rest
skip true fault rest e = absurd (cc)
skip false fault rest e = refl

skip_at : (f : ℕ → ElfFault) (found : Option ℕ) (rest : List (Option ElfFault)) → found ≡ None → first_of (option_map f found ∷ rest) ≡ first_of rest
skip_at f None rest e = refl
skip_at f (Some k) rest e = absurd (cc)

good-flags : (file : List ℕ) (flags : ℕ) → e_flags file ≡ flags → (flags ≡ 0) ⊎ (flags ≡ 16) → has_bad_flags file ≡ false
good-flags file flags is (inl zero_is) = ap (λ (f : ℕ). not (f == 0) && not (f == 16)) (is ∙ zero_is)
good-flags file flags is (inr tso_is) = ap (λ (f : ℕ). not (f == 0) && not (f == 16)) (is ∙ tso_is)

table-test : (size count end long : ℕ) → size ≡ 56 → 0 < count → count ≤ 64 → end ≤ long → (not (size == 56) || (count == 0) || nat_lt 64 count || nat_lt long end) ≡ false
table-test size count end long size_is some few fits = grind (arith, nat_tests)

good-table : (parts : Parts) (file : List ℕ) → AreGood parts → IsWritten parts file → has_bad_table file ≡ false
good-table parts file good w =
    let h = w.header in
    let count = HasHeader.count_is h in
    let offset = HasHeader.offset h in
    let size = HasHeader.entry_size h in
    table-test (e_phentsize file) (e_phnum file) (e_phoff file + 56 * e_phnum file) (length file) size (omega (arith, AreGood.some good)) (omega (arith, AreGood.few good)) (omega (arith, w.long))

pub good-file : (parts : Parts) (file : List ℕ) → AreGood parts → IsWritten parts file → first_of (file_rows file) ≡ None
unfolding file_rows
good-file parts file good w =
    let h = w.header in
    let long : nat_lt (length file) 64 ≡ false = long-test (length file) (omega (arith, w.long)) in
    let version : has_bad_version file ≡ false = ap (λ (v : ℕ). not (v == 1) || not (e_version file == 1)) (HasHeader.version h) ∙ ap (λ (v : ℕ). not (v == 1)) (HasHeader.file_version h) in
    skip (nat_lt (length file) 64) Short _ long
    ∙ skip (not (ei_mag file == 0x464C457F)) Magic _ (ap (λ (m : ℕ). not (m == 0x464C457F)) (HasHeader.magic h))
    ∙ skip (not (ei_class file == 2)) Class _ (ap (λ (m : ℕ). not (m == 2)) (HasHeader.class h))
    ∙ skip (not (ei_data file == 1)) Endian _ (ap (λ (m : ℕ). not (m == 1)) (HasHeader.encoding h))
    ∙ skip (has_bad_version file) Version _ version
    ∙ skip (not (e_type file == 2)) FileKind _ (ap (λ (m : ℕ). not (m == 2)) (HasHeader.kind h))
    ∙ skip (not (e_machine file == 243)) Machine _ (ap (λ (m : ℕ). not (m == 243)) (HasHeader.machine h))
    ∙ skip (has_bad_flags file) (Flags (e_flags file)) _ (good-flags file parts.flags (HasHeader.flags_are h) (AreGood.flags good))
    ∙ skip (has_bad_table file) Headers [] (good-table parts file good w)
  where
    long-test : (n : ℕ) → 64 ≤ n → nat_lt n 64 ≡ false
    long-test n e = grind (arith, nat_tests)

-- tests of one segment
misplaced-test : (filesz offset at memsz long : ℕ) → filesz ≤ memsz → offset + filesz ≤ long → 4096 ≤ at → at + memsz ≤ 137438953472 → (nat_lt memsz filesz || nat_lt long (offset + filesz) || nat_lt at 4096 || nat_lt 0x2000000000 (at + memsz)) ≡ false
misplaced-test filesz offset at memsz long a b c d = grind (arith, nat_tests)

good-place : (file : List ℕ) (p : Part) (h : ProgramHeader) → Stands file p h → IsGood p → is_misplaced (length file) h ≡ false
good-place file p h s g =
    ap (is_misplaced (length file)) s.is ∙ misplaced-test (length p.bytes.items) h.offset p.at p.memsz (length file) g.bytes s.inside g.above g.below

good-alignment : (file : List ℕ) (p : Part) (h : ProgramHeader) → Stands file p h → is_unaligned h ≡ false
good-alignment file p h s = ap is_unaligned s.is ∙ same (h.offset % 4096) (p.at % 4096) s.near
  where
    same : (a b : ℕ) → a ≡ b → not (a == b) ≡ false
    same a b e = grind (arith, nat_tests)

good-writing : (file : List ℕ) (p : Part) (h : ProgramHeader) → Stands file p h → IsGood p → is_writable_code h ≡ false
good-writing file p h s g = stands-same is_writable_code file p h (λ o q. refl) s ∙ g.exclusive

no-dynamic : (file : List ℕ) (hs : List ProgramHeader) (ps : List Part) → AllStand file hs ps → list_any is_dynamic hs ≡ false
no-dynamic file hs ps all = stand-any is_dynamic file hs ps (λ o q. refl) all ∙ never ps
  where
    never : (qs : List Part) → list_any (λ p. is_dynamic (segment_of p)) qs ≡ false
    never [] = refl
    never (q ∷ qs) = never qs

an_element : {X : Type 0} (xs : List X) → 0 < length xs → X
an_element [] some = absurd (omega arith)
an_element (x ∷ xs) some = x

no-overlap : (parts : Parts) (file : List ℕ) (hs : List ProgramHeader) → AreGood parts → AllStand file hs parts.segments.items → position (overlaps hs) (enumerate_from 0 hs) ≡ None
no-overlap parts file hs good all = first_overlap-none hs none (λ k lt. list_any_none (λ g. share_page g (get_or hs k none)) (take k hs) (alone k lt))
  where
    none : ProgramHeader
    none = record { kind = 0; flags = 0; offset = 0; vaddr = 0; filesz = 0; memsz = 0 }

    many : length hs ≡ length parts.segments.items
    many = stand-length file hs parts.segments.items all

    pair : (j k : ℕ) (d : Part) → j < k → k < length hs → share_page (get_or hs j none) (get_or hs k none) ≡ false
    pair j k d before lt =
        let at_j = stand-at file hs parts.segments.items all j d none (omega (arith, many)) in
        let at_k = stand-at file hs parts.segments.items all k d none (omega (arith, many)) in
        ap (λ (g : ProgramHeader). share_page g (get_or hs k none)) (Stands.is at_j) ∙ ap (λ (h : ProgramHeader). share_page (segment_of (get_or parts.segments.items j d)) h) (Stands.is at_k)
        ∙ AreGood.apart good j k d before (omega (arith, many))

    alone : (k : ℕ) → k < length hs → All (λ g. share_page g (get_or hs k none) ≡ false) (take k hs)
    alone k lt j d j_lt =
        let before : j < k = (let few = length-take-le k hs (omega arith) in omega arith) in
        let at : get_or (take k hs) j d ≡ get_or hs j none = get_or-take k hs j d before ∙ get_or_default hs j d none (omega arith) in
        ap (λ (g : ProgramHeader). share_page g (get_or hs k none)) at ∙ pair j k (an_element parts.segments.items (AreGood.some good)) before lt

pub good-segments : (parts : Parts) (file : List ℕ) (hs : List ProgramHeader) → AreGood parts → AllStand file hs parts.segments.items → first_of (segment_rows (length file) parts.entry hs) ≡ None
unfolding segment_rows
good-segments parts file hs good all =
    let entry : is_bad_entry parts.entry hs ≡ false =
    ap (λ (b : Bool). not (parts.entry % 4 == 0) || not b) (stand-any (has_code parts.entry) file hs parts.segments.items (λ o q. refl) all ∙ sym (any-segments (has_code parts.entry) parts.segments.items)) ∙ AreGood.entry good in
    skip (list_any is_dynamic hs) Dynamic _ (no-dynamic file hs parts.segments.items all)
    ∙ skip_at Segment (position (is_misplaced (length file)) hs) _ (position-none (is_misplaced (length file)) hs none (λ k lt. good-place file _ _ (at k lt) (each k lt)))
    ∙ skip_at Align (position is_unaligned hs) _ (position-none is_unaligned hs none (λ k lt. good-alignment file _ _ (at k lt)))
    ∙ skip_at WritableCode (position is_writable_code hs) _ (position-none is_writable_code hs none (λ k lt. good-writing file _ _ (at k lt) (each k lt)))
    ∙ skip_at Overlap (position (overlaps hs) (enumerate_from 0 hs)) _ (no-overlap parts file hs good all)
    ∙ skip (is_bad_entry parts.entry hs) Entry [] entry
  where
    none : ProgramHeader
    none = record { kind = 0; flags = 0; offset = 0; vaddr = 0; filesz = 0; memsz = 0 }

    some : Part
    some = an_element parts.segments.items (AreGood.some good)

    many : length hs ≡ length parts.segments.items
    many = stand-length file hs parts.segments.items all

    at : (k : ℕ) → k < length hs → Stands file (get_or parts.segments.items k some) (get_or hs k none)
    at k lt = stand-at file hs parts.segments.items all k some none (omega (arith, many))

    each : (k : ℕ) → k < length hs → IsGood (get_or parts.segments.items k some)
    each k lt = AreGood.each good k some (omega (arith, many))

-- the want of frames alone
pub accepted : (parts : Parts) (file : List ℕ) (frames : ℕ) → AreGood parts → IsWritten parts file → first_fault file frames ≡ cond (nat_lt frames (frames_needed (segments_of parts))) (Some (TooLarge (frames_needed (segments_of parts)))) None
unfolding frame_rows
accepted parts file frames good w =
    let needed : frames_needed w.headers ≡ frames_needed (segments_of parts) = ap (λ (n : ℕ). n + 65) (stand-sum page_count file w.headers parts.segments.items (λ o q. refl) w.stand) in
    fault-of_frames file frames w.headers (length file) parts.entry (cond (nat_lt frames (frames_needed (segments_of parts))) (Some (TooLarge (frames_needed (segments_of parts)))) None) (sym w.table) refl (sym (HasHeader.entry_is w.header)) (good-file parts file good w) (good-segments parts file w.headers good w.stand)
    (frame_test frames w.headers ∙ ap (λ (n : ℕ). cond (nat_lt frames n) (Some (TooLarge n)) None) needed)
  where
    one : (b : Bool) (fault : ElfFault) → first_of (row b fault ∷ []) ≡ cond b (Some fault) None
    one true fault = refl
    one false fault = refl

    frame_test : (frames : ℕ) (hs : List ProgramHeader) → first_of (frame_rows frames hs) ≡ cond (nat_lt frames (frames_needed hs)) (Some (TooLarge (frames_needed hs))) None
    frame_test frames hs = one (nat_lt frames (frames_needed hs)) (TooLarge (frames_needed hs))

-- the image is that of the parts
pub image_of : (parts : Parts) (file : List ℕ) (image : Image) → IsWritten parts file → IsImage file image → IsImageOf parts image
unfolding memory_byte parts_byte page_permission parts_permission
image_of parts file image w is = record {
  pages = record {
    rising = pages.rising;
    present = λ n. subst (λ (b : Bool). Contains (numbers image.pages.items) n ↔ IsTrue b) (there n) (pages.present n);
    bytes = λ k d lt j below. IsPage.bytes (pages.whole k d lt) j below ∙ byte (4096 * (get_or image.pages.items k d).number + j);
    permissions = λ k d lt. IsPage.permission (pages.whole k d lt) ∙ permission_is (get_or image.pages.items k d).number;
  };
  entry = is.entry ∙ HasHeader.entry_is w.header;
}
  where
    pages : ArePages file image.pages.items
    pages = is.pages

    there : (n : ℕ) → list_any (has_page n) (program_headers file) ≡ list_any (λ p. has_page n (segment_of p)) parts.segments.items
    there n = ap (list_any (has_page n)) w.table ∙ stand-any (has_page n) file w.headers parts.segments.items (λ o q. refl) w.stand

    byte : (a : ℕ) → memory_byte file a ≡ parts_byte parts.segments.items a
    byte a = ap (λ (hs : List ProgramHeader). byte_of_segment file a (find (covers a) hs)) w.table ∙ stand-byte file a w.headers parts.segments.items w.stand

    permission_is : (n : ℕ) → page_permission file n ≡ parts_permission parts.segments.items n
    permission_is n = ap (λ (hs : List ProgramHeader). unwrap_or (option_map permission (find (has_page n) hs)) 0) w.table ∙ stand-permission file n w.headers parts.segments.items w.stand

-- the file, as it was put together
pub assembled : (parts : Parts) (empty first table file : List ℕ) (ps qs : List Part) (hs gs : List ProgramHeader) (count : ℕ)
    → empty ≡ [] → first ≡ empty ++ file_header parts.entry parts.flags count → count ≡ length parts.segments.items
    → table ≡ first ++ flat_map table_entry gs → gs ≡ hs → hs ≡ placed_from (contents_start ps) ps → ps ≡ parts.segments.items
    → file ≡ table ++ contents_from (length table) qs → qs ≡ parts.segments.items → file ≡ file_of parts
unfolding file_of
assembled parts empty first table file ps qs hs gs count empty_is first_is count_is table_is gs_is hs_is ps_is file_is qs_is =
    let items : List Part = parts.segments.items in
    let front : List ℕ = file_header parts.entry parts.flags (length items) in
    let placed : List ProgramHeader = placed_from (contents_start items) items in
    let begun : first ≡ front = first_is ∙ ap (λ (l : List ℕ). l ++ file_header parts.entry parts.flags count) empty_is ∙ ap (λ (n : ℕ). file_header parts.entry parts.flags n) count_is in
    let where_is : gs ≡ placed = gs_is ∙ hs_is ∙ ap (λ (l : List Part). placed_from (contents_start l) l) ps_is in
    let headed : table ≡ front ++ flat_map table_entry placed = table_is ∙ ap (λ (l : List ℕ). l ++ flat_map table_entry gs) begun ∙ ap (λ (l : List ProgramHeader). front ++ flat_map table_entry l) where_is in
    let long : length table ≡ contents_start items = omega (arith, ap length headed, length-append front (flat_map table_entry placed), length-table placed, length-placed (contents_start items) items, length-file_header parts.entry parts.flags (length items)) in
    file_is ∙ ap (λ (n : ℕ). table ++ contents_from n qs) long ∙ ap (λ (l : List Part). table ++ contents_from (contents_start items) l) qs_is ∙ ap (λ (l : List ℕ). l ++ contents_from (contents_start items) items) headed

pub written_file : (parts : Parts) (file : List ℕ) (ps : List Part) (hs : List ProgramHeader) → refusal parts ≡ None → parts.entry < 2 ^ 64 → parts.flags < 2 ^ 32 → hs ≡ placed_from (contents_start ps) ps → ps ≡ parts.segments.items → All (λ h. h.flags < 256) hs → file ≡ file_of parts → length file < 2 ^ 63 → IsWritten parts file
written_file parts file ps hs none entry flags hs_is ps_is perms is short =
    let where_is : hs ≡ placed_from (contents_start parts.segments.items) parts.segments.items = hs_is ∙ ap (λ (l : List Part). placed_from (contents_start l) l) ps_is in
    subst (IsWritten parts) (sym is) (written parts (are_good parts none) entry flags (subst (λ (l : List ProgramHeader). All (λ h. h.flags < 256) l) where_is perms) (omega (arith, ap length is)))
