-- What is known of a loaded image.
use Rattle.std.proofs.Common.{◌≡◌, ℕ, ◌+◌, ◌<◌, inl, inr, Bool, true, false, ◌||◌, ◌&&◌, cond, List, length, get_or, All, Contains, unwrap_or, refl, sym, ap, subst, ◌∙◌, arith}
use Rattle.std.specs.List.{find, list_any}
use Rattle.std.specs.Option.{option_map}
use Rattle.std.proofs.lemmas.Bool.Decides.{nat_tests}
use Rattle.std.proofs.lemmas.List.{get_or-map, length-map}
use Rattle.std.proofs.lemmas.List.Folds.{Any-from_list_any, list_any-from_Any}
use Rattle.elf_load.specs.declared.image.Image.{Image}
use Rattle.elf_load.specs.declared.image.ImagePage.{ImagePage}
use Rattle.elf_load.specs.declared.program_headers.ProgramHeader.{ProgramHeader}
use Rattle.elf_load.specs.Fields.{e_entry, is_executable, is_load, is_readable, is_writable, has_pages, has_page, first_page, program_headers}
use Rattle.elf_load.specs.Faults.{AreApart, has_code, is_misplaced, is_writable_code}
use Rattle.elf_load.specs.Images.{ArePages, IsBootable, IsImage, IsLoaded, IsPage, IsPermission, number_of, numbers, page_permission, permission}
use Rattle.elf_load.proofs.Segments.{IsPlaced, is_placed, HasPages, pages_are, HasPage, page_is, has_page-true}
use Rattle.elf_load.proofs.Lists.{Finding, some_found, none_found, finding}
use Rattle.elf_load.proofs.Appending.{first-le-last}
use Rattle.elf_load.proofs.NoFault.{HasNoFault, has_no_fault}

-- pages of a placed segment lie in the addresses of a user, but for the first page
page_range : (n p : ℕ) (h : ProgramHeader) → is_misplaced n h ≡ false → has_page p h ≡ true → (0 < p) × (p < 33554432)
page_range n p h placed has =
    let page = page_is p h has in
    let pages = pages_are h (HasPage.pages page) in
    let in_place = is_placed n h (HasPages.load pages) placed in
    (omega (arith, HasPage.from page, IsPlaced.above in_place), omega (arith, HasPage.to page, IsPlaced.below in_place, HasPages.memory pages))

-- the number of a page is among the numbers
number-there : (pages : List ImagePage) (k : ℕ) (d : ImagePage) → k < length pages → Contains (numbers pages) (get_or pages k d).number
number-there pages k d lt = (k, omega (arith, length-map pages number_of), get_or-map number_of pages k d (get_or pages k d).number lt)

-- so some segment has it
number-range : (file : List ℕ) (pages : List ImagePage) (n : ℕ) → AreApart n (program_headers file) → ArePages file pages → (k : ℕ) (d : ImagePage) → k < length pages → (0 < (get_or pages k d).number) × ((get_or pages k d).number < 33554432)
number-range file pages n apart are k d lt = go (Any-from_list_any (has_page (get_or pages k d).number) (program_headers file) ((are.present (get_or pages k d).number).0 (number-there pages k d lt)))
  where
    go : (i : ℕ) × (h : ProgramHeader) × (i < length (program_headers file)) × (get_or (program_headers file) i h ≡ h) × (has_page (get_or pages k d).number h ≡ true) → (0 < (get_or pages k d).number) × ((get_or pages k d).number < 33554432)
    go (i, h, i_lt, is, has) = page_range n (get_or pages k d).number h (subst (λ (x : ProgramHeader). is_misplaced n x ≡ false) is (apart.placed i h i_lt)) has

pub pages-below : (file : List ℕ) (pages : List ImagePage) (n : ℕ) → AreApart n (program_headers file) → ArePages file pages → All (λ page. page.number < 33554432) pages
pages-below file pages n apart are k d lt = (number-range file pages n apart are k d lt).1

-- the permission of a segment that can't be written and executed
permission-kinds : (r w x : Bool) → (w && x) ≡ false → IsPermission (cond (r || w) 4 0 + cond w 2 0 + cond x 1 0)
permission-kinds true true true e = absurd (cc)
permission-kinds true true false e = inr (inr (inr (inr refl)))
permission-kinds true false true e = inr (inr (inr (inl refl)))
permission-kinds true false false e = inr (inr (inl refl))
permission-kinds false true true e = absurd (cc)
permission-kinds false true false e = inr (inr (inr (inr refl)))
permission-kinds false false true e = inr (inl refl)
permission-kinds false false false e = inl refl

exclusive : (h : ProgramHeader) → is_load h ≡ true → is_writable_code h ≡ false → (is_writable h && is_executable h) ≡ false
exclusive h load e = sym (ap (λ (b : Bool). b && is_writable h && is_executable h) load) ∙ e

permission-good : (file : List ℕ) (p n : ℕ) → AreApart n (program_headers file) → list_any (has_page p) (program_headers file) ≡ true → IsPermission (page_permission file p)
unfolding page_permission
permission-good file p n apart some = go (finding (has_page p) (program_headers file)) (Any-from_list_any (has_page p) (program_headers file) some)
  where
    go : Finding (has_page p) (program_headers file) → (i : ℕ) × (h : ProgramHeader) × (i < length (program_headers file)) × (get_or (program_headers file) i h ≡ h) × (has_page p h ≡ true) → IsPermission (unwrap_or (option_map permission (find (has_page p) (program_headers file))) 0)
    go (none_found is never) (i, h, i_lt, at, has) = absurd (true_false (has_page p (get_or (program_headers file) i h)) (ap (has_page p) at ∙ has) (never i h i_lt))
      where
        true_false : (b : Bool) → b ≡ true → b ≡ false → ⊥
        true_false true a b = cc
        true_false false a b = cc
    go (some_found g is found) other =
        let load : is_load g ≡ true = HasPages.load (pages_are g (HasPage.pages (page_is p g found.passes))) in
        let not_both : is_writable_code g ≡ false = subst (λ (x : ProgramHeader). is_writable_code x ≡ false) (found.here g) (apart.exclusive found.place g found.within) in
        rw is (permission-kinds (is_readable g) (is_writable g) (is_executable g) (exclusive g load not_both))

-- code has a page
pub some-page : (file : List ℕ) (pages : List ImagePage) (entry : ℕ) → ArePages file pages → list_any (has_code entry) (program_headers file) ≡ true → 0 < length pages
some-page file pages entry are code = go (Any-from_list_any (has_code entry) (program_headers file) code)
  where
    there : (n : ℕ) → Contains (numbers pages) n → 0 < length pages
    there n (k, lt, is) = omega (arith, length-map pages number_of)

    go : (i : ℕ) × (h : ProgramHeader) × (i < length (program_headers file)) × (get_or (program_headers file) i h ≡ h) × (has_code entry h ≡ true) → 0 < length pages
    go (i, h, i_lt, at, has) =
        let pages_h : has_pages h ≡ true = grind (arith, nat_tests) in
        there (first_page h) ((are.present (first_page h)).1 (list_any-from_Any (has_page (first_page h)) (program_headers file) (i, h, i_lt, at, has_page-true (first_page h) h pages_h (omega arith) (first-le-last h pages_h))))

pub bootable : (file : List ℕ) (frames : ℕ) (image : Image) → HasNoFault file frames → IsImage file image → IsBootable frames image
bootable file frames image sound is = record {
  rising = are.rising;
  room = omega (arith, are.count, sound.room);
  some_page = some-page file image.pages.items (e_entry file) are sound.segments.code;
  below = pages-below file image.pages.items (length file) sound.segments.apart are;
  not_first = λ k d lt. (number-range file image.pages.items (length file) sound.segments.apart are k d lt).0;
  sizes = λ k d lt. IsPage.size (are.whole k d lt);
  permissions = λ k d lt. subst IsPermission (sym (IsPage.permission (are.whole k d lt))) (permission-good file (get_or image.pages.items k d).number (length file) sound.segments.apart ((are.present (get_or image.pages.items k d).number).0 (number-there image.pages.items k d lt)));
  break_at = is.break_at;
  aligned = rw is.entry sound.segments.aligned;
}
  where
    are : ArePages file image.pages.items
    are = is.pages

-- a loaded image is good to start a machine with
pub loaded_is_bootable : (image : Image) (frames : ℕ) → IsLoaded image frames → IsBootable frames image
loaded_is_bootable image frames loaded = bootable loaded.file frames image (has_no_fault loaded.file frames loaded.no_fault) loaded.is_image
