-- Segments that have no page in common.
use Rattle.std.proofs.Common.{◌≡◌, ℕ, ◌+◌, ◌-◌, ◌*◌, ◌/◌, ◌<◌, ◌≤◌, inl, inr, Bool, true, false, ◌&&◌, nat_le, List, length, slice_index, get_or, unwrap_or, refl, sym, ap, subst, ◌∙◌, arith}
use Rattle.std.specs.List.{find}
use Rattle.std.specs.Option.{option_map}
use Rattle.std.proofs.lemmas.Bool.{cases_lt}
use Rattle.std.proofs.lemmas.Bool.Decides.{nat_tests}
use Rattle.elf_load.specs.declared.image.ImagePage.{ImagePage}
use Rattle.elf_load.specs.declared.program_headers.ProgramHeader.{ProgramHeader}
use Rattle.elf_load.specs.Fields.{is_load, has_pages, has_page, first_page, last_page, program_headers}
use Rattle.elf_load.specs.Faults.{AreApart, is_misplaced, share_page}
use Rattle.elf_load.specs.Images.{IsPage, covers, byte_of_segment, memory_byte, page_permission, permission}
use Rattle.elf_load.specs.Paging.{IsPageOf, segment_byte}
use Rattle.elf_load.proofs.Segments.{IsPlaced, is_placed, HasPage, HasPages, pages_are, page_is, has_page-true}
use Rattle.elf_load.proofs.Lists.{IsFound, Finding, some_found, none_found, finding}

both : (a b : Bool) → a ≡ true → b ≡ true → (a && b) ≡ true
both true b p q = q
both false b p q = absurd (cc)

clash : (b : Bool) → b ≡ true → b ≡ false → ⊥
clash true p q = cc
clash false p q = cc

-- two segments with one page share it
pub share-true : (n : ℕ) (g h : ProgramHeader) → has_page n g ≡ true → has_page n h ≡ true → share_page g h ≡ true
share-true n g h of_g of_h =
    let a = page_is n g of_g in
    let b = page_is n h of_h in
    let low : nat_le (first_page g) (last_page h) ≡ true = tested (first_page g) (last_page h) (omega (arith, HasPage.from a, HasPage.to b)) in
    let high : nat_le (first_page h) (last_page g) ≡ true = tested (first_page h) (last_page g) (omega (arith, HasPage.from b, HasPage.to a)) in
    both (has_pages g && has_pages h && nat_le (first_page g) (last_page h)) (nat_le (first_page h) (last_page g))
    (both (has_pages g && has_pages h) (nat_le (first_page g) (last_page h)) (both (has_pages g) (has_pages h) (HasPage.pages a) (HasPage.pages b)) low) high
  where
    tested : (x y : ℕ) → x ≤ y → nat_le x y ≡ true
    tested x y le = grind (arith, nat_tests)

-- so it is one segment
pub one_segment : (n : ℕ) (headers : List ProgramHeader) (i j p : ℕ) (d : ProgramHeader) → AreApart n headers → i < length headers → j < length headers → has_page p (get_or headers i d) ≡ true → has_page p (get_or headers j d) ≡ true → i ≡ j
one_segment n headers i j p d apart i_in j_in of_i of_j = elim (cases_lt i j) [
  | inl before ↦ absurd (clash _ (share-true p (get_or headers i d) (get_or headers j d) of_i of_j) (AreApart.apart apart i j d before j_in))
  | inr after ↦ elim (cases_lt j i) [
    | inl behind ↦ absurd (clash _ (share-true p (get_or headers j d) (get_or headers i d) of_j of_i) (AreApart.apart apart j i d behind i_in))
    | inr equal ↦ omega arith
  ]
]

-- an address that the file part of a placed segment covers lies in a page of it
pub covered_page : (n a : ℕ) (h : ProgramHeader) → is_misplaced n h ≡ false → covers a h ≡ true → has_page (a / 4096) h ≡ true
covered_page n a h placed covered =
    let load : is_load h ≡ true = grind (arith, nat_tests) in
    let low : h.vaddr ≤ a = grind (arith, nat_tests) in
    let high : a < h.vaddr + h.filesz = grind (arith, nat_tests) in
    let p = is_placed n h load placed in
    let memory : 0 < h.memsz = omega (arith, IsPlaced.in_memory p) in
    let pages : has_pages h ≡ true = grind (arith, nat_tests) in
    let last : a ≤ h.vaddr + h.memsz - 1 = omega (arith, IsPlaced.in_memory p) in
    has_page-true (a / 4096) h pages (omega arith) (omega arith)

-- where a segment of the table has the page of an address, the byte of memory there is the segment's
pub memory_byte-of : (file : List ℕ) (headers : List ProgramHeader) (m a : ℕ) (h : ProgramHeader) → headers ≡ program_headers file → AreApart (length file) headers → m < length headers → ((d : ProgramHeader) → get_or headers m d ≡ h) → has_page (a / 4096) h ≡ true → memory_byte file a ≡ segment_byte file h a
unfolding memory_byte
memory_byte-of file headers m a h table apart lt here page = subst (λ (hs : List ProgramHeader). byte_of_segment file a (find (covers a) hs) ≡ segment_byte file h a) table (go (finding (covers a) headers))
  where
    same : (g : ProgramHeader) → IsFound (covers a) headers g → g ≡ h
    same g found =
        let at_g : get_or headers found.place g ≡ g = found.here g in
        let placed : is_misplaced (length file) g ≡ false = subst (λ (x : ProgramHeader). is_misplaced (length file) x ≡ false) at_g (AreApart.placed apart found.place g found.within) in
        let of_g : has_page (a / 4096) (get_or headers found.place g) ≡ true = subst (λ (x : ProgramHeader). has_page (a / 4096) x ≡ true) (sym at_g) (covered_page (length file) a g placed found.passes) in
        let of_h : has_page (a / 4096) (get_or headers m g) ≡ true = subst (λ (x : ProgramHeader). has_page (a / 4096) x ≡ true) (sym (here g)) page in
        let one : found.place ≡ m = one_segment (length file) headers found.place m (a / 4096) g apart found.within lt of_g of_h in
        sym at_g ∙ ap (λ (k : ℕ). get_or headers k g) one ∙ here g

    covered : (g : ProgramHeader) → g ≡ h → covers a g ≡ true → slice_index file (g.offset + (a - g.vaddr)) ≡ segment_byte file h a
    covered g is covers_g =
        let covers_h : covers a h ≡ true = ap (covers a) (sym is) ∙ covers_g in
        ap (λ (x : ProgramHeader). slice_index file (x.offset + (a - x.vaddr))) is ∙ (rw covers_h refl)

    bare : covers a h ≡ false → 0 ≡ segment_byte file h a
    bare not_h = rw not_h refl

    go : Finding (covers a) headers → byte_of_segment file a (find (covers a) headers) ≡ segment_byte file h a
    go (some_found g is found) = rw is (covered g (same g found) found.passes)
    go (none_found is never) = rw is (bare (ap (covers a) (sym (here h)) ∙ never m h lt))

-- and the permission of the page is the segment's
pub page_permission-of : (file : List ℕ) (headers : List ProgramHeader) (m p : ℕ) (h : ProgramHeader) → headers ≡ program_headers file → AreApart (length file) headers → m < length headers → ((d : ProgramHeader) → get_or headers m d ≡ h) → has_page p h ≡ true → page_permission file p ≡ permission h
unfolding page_permission
page_permission-of file headers m p h table apart lt here page = subst (λ (hs : List ProgramHeader). unwrap_or (option_map permission (find (has_page p) hs)) 0 ≡ permission h) table (go (finding (has_page p) headers))
  where
    same : (g : ProgramHeader) → IsFound (has_page p) headers g → g ≡ h
    same g found =
        let at_g : get_or headers found.place g ≡ g = found.here g in
        let of_g : has_page p (get_or headers found.place g) ≡ true = subst (λ (x : ProgramHeader). has_page p x ≡ true) (sym at_g) found.passes in
        let of_h : has_page p (get_or headers m g) ≡ true = subst (λ (x : ProgramHeader). has_page p x ≡ true) (sym (here g)) page in
        let one : found.place ≡ m = one_segment (length file) headers found.place m p g apart found.within lt of_g of_h in
        sym at_g ∙ ap (λ (k : ℕ). get_or headers k g) one ∙ here g

    go : Finding (has_page p) headers → unwrap_or (option_map permission (find (has_page p) headers)) 0 ≡ permission h
    go (some_found g is found) = rw is (ap permission (same g found))
    go (none_found is never) = absurd (clash (has_page p h) page (ap (has_page p) (sym (here h)) ∙ never m h lt))

-- a page of a segment of the table is a page of the file
pub IsPage-of : (file : List ℕ) (headers : List ProgramHeader) (m : ℕ) (h : ProgramHeader) (page : ImagePage) → headers ≡ program_headers file → AreApart (length file) headers → m < length headers → ((d : ProgramHeader) → get_or headers m d ≡ h) → has_page page.number h ≡ true → IsPageOf file h page → IsPage file page
IsPage-of file headers m h page table apart lt here has whole = record {
  size = whole.size;
  bytes = λ j below. whole.bytes j below ∙ sym (memory_byte-of file headers m (4096 * page.number + j) h table apart lt here (at_page j below));
  permission = whole.permission ∙ sym (page_permission-of file headers m page.number h table apart lt here has);
}
  where
    at_page : (j : ℕ) → j < 4096 → has_page ((4096 * page.number + j) / 4096) h ≡ true
    at_page j below = let number : (4096 * page.number + j) / 4096 ≡ page.number = omega arith in rw number has

-- two segments share a page just where some page is one of both
pub share-page : (g h : ProgramHeader) → share_page g h ≡ true → (n : ℕ) × (has_page n g ≡ true) × (has_page n h ≡ true)
share-page g h shared =
    let of_g : has_pages g ≡ true = grind (arith, nat_tests) in
    let of_h : has_pages h ≡ true = grind (arith, nat_tests) in
    let low : first_page g ≤ last_page h = grind (arith, nat_tests) in
    let high : first_page h ≤ last_page g = grind (arith, nat_tests) in
    let span_g : first_page g ≤ last_page g = memory-span g (HasPages.memory (pages_are g of_g)) in
    let span_h : first_page h ≤ last_page h = memory-span h (HasPages.memory (pages_are h of_h)) in
    elim (cases_lt (first_page g) (first_page h)) [
      | inl before ↦ (first_page h, has_page-true (first_page h) g of_g (omega arith) high, has_page-true (first_page h) h of_h (omega arith) span_h)
      | inr after ↦ (first_page g, has_page-true (first_page g) g of_g (omega arith) span_g, has_page-true (first_page g) h of_h after low)
    ]
  where
    memory-span : (x : ProgramHeader) → 0 < x.memsz → first_page x ≤ last_page x
    memory-span x memory = omega arith
