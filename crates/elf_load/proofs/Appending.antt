-- Pages of one segment, one after the other.
use Rattle.std.proofs.Common.{◌≡◌, ℕ, zero, suc, ◌+◌, ◌-◌, ◌<◌, ◌≤◌, true, List, [], ◌∷◌, ◌++◌, All, sym, ap, ◌∙◌, arith, append-nil, append_assoc, subst}
use Rattle.std.specs.List.{range_with_len}
use Rattle.std.proofs.lemmas.List.{map-append}
use Rattle.std.proofs.lemmas.List.Elements.{All-append, All-nil}
use Rattle.elf_load.specs.declared.image.ImagePage.{ImagePage}
use Rattle.elf_load.specs.declared.program_headers.ProgramHeader.{ProgramHeader}
use Rattle.elf_load.specs.Fields.{first_page, has_pages, last_page, page_count}
use Rattle.elf_load.specs.Images.{number_of}
use Rattle.elf_load.specs.Paging.{AppendsPages, IsPageOf}
use Rattle.elf_load.proofs.Segments.{HasPages, pages_are}

-- one number more
range_with_len-suc : (a n : ℕ) → range_with_len a (suc n) ≡ range_with_len a n ++ (a + n) ∷ []
range_with_len-suc a zero = ap (λ (x : ℕ). x ∷ []) (let e : a ≡ a + 0 = omega arith in e)
range_with_len-suc a (suc n) =
    let place : (a + 1) + n ≡ a + suc n = omega arith in
    ap (λ (r : List ℕ). a ∷ r) (range_with_len-suc (a + 1) n ∙ ap (λ (x : ℕ). range_with_len (a + 1) n ++ x ∷ []) place)

pub range_with_len-more : (a n : ℕ) → range_with_len a (n + 1) ≡ range_with_len a n ++ (a + n) ∷ []
range_with_len-more a n = ap (λ (k : ℕ). range_with_len a k) (let e : n + 1 ≡ suc n = omega arith in e) ∙ range_with_len-suc a n

All-one : {X : Type 0} (P : X → Type 0) (x : X) → P x → All P (x ∷ [])
All-one P x p zero d lt = p
All-one P x p (suc k) d lt = absurd (omega arith)

pub appends-none : (file : List ℕ) (h : ProgramHeader) (pages : List ImagePage) (n : ℕ) → n ≡ 0 → AppendsPages file h n pages pages
appends-none file h pages n none = record {
  made = [];
  appended = sym (append-nil pages);
  counted = ap (λ (k : ℕ). range_with_len (first_page h) k) (sym none);
  whole = All-nil (IsPageOf file h);
}

pub appends-one : (file : List ℕ) (h : ProgramHeader) (n m : ℕ) (old mid new : List ImagePage) (page : ImagePage) → AppendsPages file h n old mid → m ≡ n + 1 → page.number ≡ first_page h + n → IsPageOf file h page → new ≡ mid ++ page ∷ [] → AppendsPages file h m old new
appends-one file h n m old mid new page before more number whole is = record {
  made = before.made ++ page ∷ [];
  appended = is ∙ ap (λ (pages : List ImagePage). pages ++ page ∷ []) before.appended ∙ append_assoc old before.made (page ∷ []);
  counted =
      map-append number_of before.made (page ∷ [])
      ∙ ap (λ (ns : List ℕ). ns ++ page.number ∷ []) before.counted
      ∙ ap (λ (k : ℕ). range_with_len (first_page h) n ++ k ∷ []) number
      ∙ sym (range_with_len-more (first_page h) n) ∙ ap (λ (k : ℕ). range_with_len (first_page h) k) (sym more);
  whole = All-append (IsPageOf file h) before.made (page ∷ []) before.whole (All-one (IsPageOf file h) page whole);
}

-- all pages of the segment
pub appends-all : (file : List ℕ) (h : ProgramHeader) (n : ℕ) (old new : List ImagePage) → has_pages h ≡ true → AppendsPages file h n old new → n ≡ last_page h + 1 - first_page h → AppendsPages file h (page_count h) old new
appends-all file h n old new pages all many = rw pages (subst (λ (k : ℕ). AppendsPages file h k old new) many all)

pub first-le-last : (h : ProgramHeader) → has_pages h ≡ true → first_page h ≤ last_page h
first-le-last h pages = let memory : 0 < h.memsz = HasPages.memory (pages_are h pages) in omega arith
