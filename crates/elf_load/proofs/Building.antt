-- The pages built so far are those of the segments below a page number.
use Rattle.std.proofs.Common.{◌≡◌, ℕ, suc, ◌+◌, ◌-◌, ◌<◌, ◌≤◌, ◌⊎◌, ◌↔◌, inl, inr, Bool, true, false, cond, IsTrue, List, [], ◌∷◌, ◌++◌, length, slice_index, get_or, All, Contains, sum_by, nat_lt, refl, sym, ap, subst, ◌∙◌, arith, length-append}
use Rattle.std.specs.List.{list_any, range_with_len}
use Rattle.std.specs.List.Sorted.{IsStrictlyIncreasing}
use Rattle.std.proofs.lemmas.Bool.{cases_lt}
use Rattle.std.proofs.lemmas.Bool.Decides.{nat_tests}
use Rattle.std.proofs.lemmas.List.{get_or_default, get_or-map, map-append, length-map}
use Rattle.std.proofs.lemmas.List.Elements.{All-append, All-nil, Contains-append_left, Contains-append_right, Contains-append_cases}
use Rattle.std.proofs.lemmas.List.Folds.{Any-from_list_any, list_any-from_Any}
use Rattle.std.proofs.lemmas.List.Sums.{sum_by-cons}
use Rattle.std.proofs.lemmas.List.FromFn.{length-range_with_len, get_or-range_with_len}
use Rattle.elf_load.specs.declared.image.ImagePage.{ImagePage}
use Rattle.elf_load.specs.declared.program_headers.ProgramHeader.{ProgramHeader}
use Rattle.elf_load.specs.Fields.{has_pages, has_page, first_page, last_page, page_count, program_headers}
use Rattle.elf_load.specs.Faults.{AreApart, is_misplaced}
use Rattle.elf_load.specs.Images.{ArePages, IsPage, number_of, numbers}
use Rattle.elf_load.specs.Paging.{AppendsPages, IsNext, IsPageOf}
use Rattle.elf_load.proofs.Segments.{IsPlaced, is_placed, HasPages, pages_are, HasPage, page_is, has_page-true}
use Rattle.elf_load.proofs.Lists.{sum_by-same, sum_by-one, increasing-range, below-range, range-contains, contains-range}
use Rattle.elf_load.proofs.Appending.{first-le-last}
use Rattle.elf_load.proofs.Apart.{one_segment, IsPage-of}

-- how many pages a segment has in what was built
abbrev pub counted_below : ℕ → ProgramHeader → ℕ
counted_below from h = cond (nat_lt (last_page h) from) (page_count h) 0

pub record IsBuilt (file : List ℕ) (headers : List ProgramHeader) (from : ℕ) (pages : List ImagePage) : Type 0 where
  pub rising : IsStrictlyIncreasing (numbers pages)
  pub below : (k : ℕ) → k < length (numbers pages) → slice_index (numbers pages) k < from
  pub present : (n : ℕ) → n < from → Contains (numbers pages) n ↔ IsTrue (list_any (has_page n) headers)
  pub whole : All (IsPage file) pages
  pub split : (k : ℕ) (d : ProgramHeader) → k < length headers → has_pages (get_or headers k d) ≡ true → (last_page (get_or headers k d) < from) ⊎ (from ≤ first_page (get_or headers k d))
  pub counted : length pages ≡ sum_by (counted_below from) headers
  pub low : from ≤ 33554432

-- a segment without pages is never counted
counted-empty : (from : ℕ) (h : ProgramHeader) → has_pages h ≡ false → counted_below from h ≡ 0
counted-empty from h none = grind (arith, nat_tests)

counted-under : (from : ℕ) (h : ProgramHeader) → last_page h < from → counted_below from h ≡ page_count h
counted-under from h under = grind (arith, nat_tests)

counted-over : (from : ℕ) (h : ProgramHeader) → from ≤ last_page h → counted_below from h ≡ 0
counted-over from h over = grind (arith, nat_tests)

sum_by-zero : (f : ProgramHeader → ℕ) (xs : List ProgramHeader) → ((k : ℕ) (d : ProgramHeader) → k < length xs → f (get_or xs k d) ≡ 0) → sum_by f xs ≡ 0
sum_by-zero f [] none = refl
sum_by-zero f (x ∷ xs) none =
    let first : f x ≡ 0 = none 0 x (omega arith) in
    let rest = sum_by-zero f xs (λ k d lt. none (suc k) d (omega arith)) in
    omega (arith, sum_by-cons f x xs)

bool_cases : (b : Bool) → (b ≡ true) ⊎ (b ≡ false)
bool_cases true = inl refl
bool_cases false = inr refl

contains-below : (xs : List ℕ) (b : ℕ) → ((k : ℕ) → k < length xs → slice_index xs k < b) → (x : ℕ) → Contains xs x → x < b
contains-below xs b below x (k, lt, is) = omega (arith, below k lt, get_or_default xs k x 0 lt)

pub built-none : (file : List ℕ) (headers : List ProgramHeader) (pages : List ImagePage) → pages ≡ [] → IsBuilt file headers 0 pages
built-none file headers pages empty = subst (λ (ps : List ImagePage). IsBuilt file headers 0 ps) (sym empty) (record {
  rising = λ k lt. absurd (omega arith);
  below = λ k lt. absurd (omega arith);
  present = λ n lt. absurd (omega arith);
  whole = All-nil (IsPage file);
  split = λ k d lt pages. inr (omega arith);
  counted = sym (sum_by-zero (counted_below 0) headers (λ k d lt. counted-over 0 (get_or headers k d) (omega arith)));
  low = omega arith;
})

-- what the next segment is, as an element of the table
record IsPlace (file : List ℕ) (headers : List ProgramHeader) (from : ℕ) (h : ProgramHeader) : Type 0 where
  pub place : ℕ
  pub within : place < length headers
  pub here : (d : ProgramHeader) → get_or headers place d ≡ h
  pub pages : has_pages h ≡ true
  pub later : from ≤ first_page h
  pub span : first_page h ≤ last_page h
  pub top : last_page h < 33554432
  pub many : page_count h ≡ last_page h + 1 - first_page h
  pub least : (k : ℕ) (d : ProgramHeader) → k < length headers → has_pages (get_or headers k d) ≡ true → from ≤ first_page (get_or headers k d) → first_page h ≤ first_page (get_or headers k d)
  pub alone : (k n : ℕ) (d : ProgramHeader) → k < length headers → has_page n (get_or headers k d) ≡ true → has_page n h ≡ true → k ≡ place

place_of : (file : List ℕ) (headers : List ProgramHeader) (from : ℕ) (h : ProgramHeader) → AreApart (length file) headers → IsNext headers from h → IsPlace file headers from h
place_of file headers from h apart next = go (IsNext.listed next)
  where
    go : Contains headers h → IsPlace file headers from h
    go (m, lt, is) =
        let at : (d : ProgramHeader) → get_or headers m d ≡ h = λ d. get_or_default headers m d h lt ∙ is in
        let placed : is_misplaced (length file) h ≡ false = subst (λ (x : ProgramHeader). is_misplaced (length file) x ≡ false) is (AreApart.placed apart m h lt) in
        let below : h.vaddr + h.memsz ≤ 137438953472 = IsPlaced.below (is_placed (length file) h (HasPages.load (pages_are h (IsNext.nonempty next))) placed) in
        let pages : has_pages h ≡ true = IsNext.nonempty next in
        record {
          place = m;
          within = lt;
          here = at;
          pages = pages;
          later = IsNext.later next;
          span = first-le-last h pages;
          top = omega arith;
          many = rw pages refl;
          least = IsNext.first next;
          alone = λ k n d k_lt of_k of_h. one_segment (length file) headers k m n d apart k_lt lt of_k (subst (λ (x : ProgramHeader). has_page n x ≡ true) (sym (at d)) of_h);
        }

-- a later segment lies past the next one, or is it
later-cases : (file : List ℕ) (headers : List ProgramHeader) (from k : ℕ) (h d : ProgramHeader) → IsPlace file headers from h → k < length headers → has_pages (get_or headers k d) ≡ true → from ≤ first_page (get_or headers k d) → (last_page h < first_page (get_or headers k d)) ⊎ (get_or headers k d ≡ h)
later-cases file headers from k h d p lt pages later = elim (cases_lt (last_page h) (first_page (get_or headers k d))) [
  | inl past ↦ inl past
  | inr meets ↦
      let first : ℕ = first_page (get_or headers k d) in
      let of_k : has_page first (get_or headers k d) ≡ true = has_page-true first (get_or headers k d) pages (omega arith) (first-le-last (get_or headers k d) pages) in
      let of_h : has_page first h ≡ true = has_page-true first h p.pages (p.least k d lt pages later) meets in
      inr (ap (λ (j : ℕ). get_or headers j d) (p.alone k first d lt of_k of_h) ∙ p.here d)
]

next-numbers : (file : List ℕ) (h : ProgramHeader) (pages new : List ImagePage) (a : AppendsPages file h (page_count h) pages new) → numbers new ≡ numbers pages ++ range_with_len (first_page h) (page_count h)
next-numbers file h pages new a = ap numbers a.appended ∙ map-append number_of pages a.made ∙ ap (λ (ns : List ℕ). numbers pages ++ ns) a.counted

-- page n is there where a segment has it
next-present : (file : List ℕ) (headers : List ProgramHeader) (from : ℕ) (h : ProgramHeader) (old : List ℕ) (n : ℕ) → IsPlace file headers from h
    → ((k : ℕ) → k < length old → slice_index old k < from)
    → ((i : ℕ) → i < from → Contains old i ↔ IsTrue (list_any (has_page i) headers))
    → ((k : ℕ) (d : ProgramHeader) → k < length headers → has_pages (get_or headers k d) ≡ true → (last_page (get_or headers k d) < from) ⊎ (from ≤ first_page (get_or headers k d)))
    → n < last_page h + 1 → Contains (old ++ range_with_len (first_page h) (page_count h)) n ↔ IsTrue (list_any (has_page n) headers)
next-present file headers from h old n p below present split lt = (forward, backward)
  where
    made : List ℕ
    made = range_with_len (first_page h) (page_count h)

    there : Contains old n ⊎ Contains (range_with_len (first_page h) (page_count h)) n → list_any (has_page n) headers ≡ true
    there (inl before) = (present n (contains-below old from below n before)).0 before
    there (inr added) =
        let bounds = contains-range (first_page h) (page_count h) n added in
        list_any-from_Any (has_page n) headers (p.place, h, p.within, p.here h, has_page-true n h p.pages bounds.0 (omega (arith, p.many, bounds.1, p.span)))

    forward : Contains (old ++ range_with_len (first_page h) (page_count h)) n → IsTrue (list_any (has_page n) headers)
    forward c = there (Contains-append_cases old (range_with_len (first_page h) (page_count h)) n c)

    added : (k : ℕ) (g : ProgramHeader) → k < length headers → get_or headers k g ≡ g → has_page n g ≡ true → from ≤ n → Contains (range_with_len (first_page h) (page_count h)) n
    added k g k_lt is has over =
        let page = page_is n g has in
        let pages : has_pages (get_or headers k g) ≡ true = subst (λ (x : ProgramHeader). has_pages x ≡ true) (sym is) (HasPage.pages page) in
        let first : first_page (get_or headers k g) ≡ first_page g = ap first_page is in
        let last : last_page (get_or headers k g) ≡ last_page g = ap last_page is in
        elim (split k g k_lt pages) [
          | inl under ↦ absurd (omega (arith, first, last, under, HasPage.to page))
          | inr later ↦ range-contains (first_page h) (page_count h) n (omega (arith, first, p.least k g k_lt pages later, HasPage.from page)) (omega (arith, p.many, p.span))
        ]

    backward : IsTrue (list_any (has_page n) headers) → Contains (old ++ range_with_len (first_page h) (page_count h)) n
    backward e = elim (cases_lt n from) [
      | inl under ↦ Contains-append_left old (range_with_len (first_page h) (page_count h)) n ((present n under).1 e)
      | inr over ↦ Contains-append_right old (range_with_len (first_page h) (page_count h)) n (listed (Any-from_list_any (has_page n) headers e) over)
    ]
      where
        listed : (k : ℕ) × (g : ProgramHeader) × (k < length headers) × (get_or headers k g ≡ g) × (has_page n g ≡ true) → from ≤ n → Contains (range_with_len (first_page h) (page_count h)) n
        listed (k, g, k_lt, is, has) over = added k g k_lt is has over

-- the added pages are pages of the file
next-whole : (file : List ℕ) (headers : List ProgramHeader) (from : ℕ) (h : ProgramHeader) (made : List ImagePage) → headers ≡ program_headers file → AreApart (length file) headers → IsPlace file headers from h → numbers made ≡ range_with_len (first_page h) (page_count h) → All (IsPageOf file h) made → All (IsPage file) made
next-whole file headers from h made table apart p counted whole k d lt =
    let few : k < page_count h = omega (arith, length-map made number_of, ap length counted, length-range_with_len (first_page h) (page_count h)) in
    let number : (get_or made k d).number ≡ first_page h + k =
    sym (get_or-map number_of made k d 0 lt) ∙ ap (λ (ns : List ℕ). get_or ns k 0) counted ∙ get_or-range_with_len (first_page h) (page_count h) k 0 few in
    IsPage-of file headers p.place h (get_or made k d) table apart p.within p.here (rw number (has_page-true (first_page h + k) h p.pages (omega arith) (omega (arith, p.many, p.span)))) (whole k d lt)

-- the next segment was appended
pub built-next : (file : List ℕ) (headers : List ProgramHeader) (from : ℕ) (h : ProgramHeader) (pages new : List ImagePage) → headers ≡ program_headers file → AreApart (length file) headers → IsBuilt file headers from pages → IsNext headers from h → AppendsPages file h (page_count h) pages new → IsBuilt file headers (last_page h + 1) new
built-next file headers from h pages new table apart built next a = record {
  rising = subst IsStrictlyIncreasing (sym nums) (increasing-range (numbers pages) (first_page h) (page_count h) built.rising (λ k lt. omega (arith, built.below k lt, p.later)));
  below = subst (λ (ns : List ℕ). (k : ℕ) → k < length ns → slice_index ns k < last_page h + 1) (sym nums) (below-range (numbers pages) (first_page h) (page_count h) (last_page h + 1) (λ k lt. omega (arith, built.below k lt, p.later)) (omega (arith, p.span)) (omega (arith, p.many, p.span)));
  present = λ n lt. subst (λ (ns : List ℕ). Contains ns n ↔ IsTrue (list_any (has_page n) headers)) (sym nums) (next-present file headers from h (numbers pages) n p built.below built.present built.split lt);
  whole = subst (λ (ps : List ImagePage). All (IsPage file) ps) (sym a.appended) (All-append (IsPage file) pages a.made built.whole (next-whole file headers from h a.made table apart p a.counted a.whole));
  split = split;
  counted = counted;
  low = omega (arith, p.top);
}
  where
    p : IsPlace file headers from h
    p = place_of file headers from h apart next

    nums : numbers new ≡ numbers pages ++ range_with_len (first_page h) (page_count h)
    nums = next-numbers file h pages new a

    split : (k : ℕ) (d : ProgramHeader) → k < length headers → has_pages (get_or headers k d) ≡ true → (last_page (get_or headers k d) < last_page h + 1) ⊎ (last_page h + 1 ≤ first_page (get_or headers k d))
    split k d lt k_pages = elim (built.split k d lt k_pages) [
      | inl under ↦ inl (omega (arith, p.later, p.span))
      | inr later ↦ elim (later-cases file headers from k h d p lt k_pages later) [
        | inl past ↦ inr (omega arith)
        | inr same ↦ inl (omega (arith, ap last_page same))
      ]
    ]

    same : (k : ℕ) (d : ProgramHeader) → k < length headers → (k ≡ p.place → ⊥) → counted_below (last_page h + 1) (get_or headers k d) ≡ counted_below from (get_or headers k d)
    same k d lt other = elim (bool_cases (has_pages (get_or headers k d))) [
      | inr none ↦ counted-empty (last_page h + 1) (get_or headers k d) none ∙ sym (counted-empty from (get_or headers k d) none)
      | inl some ↦ elim (built.split k d lt some) [
        | inl under ↦ counted-under (last_page h + 1) (get_or headers k d) (omega (arith, p.later, p.span)) ∙ sym (counted-under from (get_or headers k d) under)
        | inr later ↦
            let span : first_page (get_or headers k d) ≤ last_page (get_or headers k d) = first-le-last (get_or headers k d) some in
            counted-over (last_page h + 1) (get_or headers k d) (elim (cases_lt (last_page h) (first_page (get_or headers k d))) [
              | inl past ↦ omega arith
              | inr meets ↦ absurd (other (p.alone k (first_page (get_or headers k d)) d lt (has_page-true (first_page (get_or headers k d)) (get_or headers k d) some (omega arith) span) (has_page-true (first_page (get_or headers k d)) h p.pages (p.least k d lt some later) meets)))
            ])
            ∙ sym (counted-over from (get_or headers k d) (omega arith))
      ]
    ]

    counted : length new ≡ sum_by (counted_below (last_page h + 1)) headers
    counted =
        let place : (x : ProgramHeader) → x ≡ h → counted_below (last_page h + 1) x ≡ counted_below from x + page_count h = λ x is. rw is (here_h) in
        let sums : sum_by (counted_below (last_page h + 1)) headers ≡ sum_by (counted_below from) headers + page_count h =
        sum_by-one (counted_below from) (counted_below (last_page h + 1)) headers p.place (page_count h) h p.within same (place (get_or headers p.place h) (p.here h)) in
        let made : length a.made ≡ page_count h = sym (length-map a.made number_of) ∙ ap length a.counted ∙ length-range_with_len (first_page h) (page_count h) in
        let all : length new ≡ length pages + length a.made = ap length a.appended ∙ length-append pages a.made in
        omega (arith, sums, made, all, built.counted)
      where
        here_h : counted_below (last_page h + 1) h ≡ counted_below from h + page_count h
        here_h = omega (arith, counted-under (last_page h + 1) h (omega arith), counted-over from h (omega (arith, p.later, p.span)))

built-count : (file : List ℕ) (headers : List ProgramHeader) (from : ℕ) (pages : List ImagePage) → IsBuilt file headers from pages → ((k : ℕ) (d : ProgramHeader) → k < length headers → has_pages (get_or headers k d) ≡ true → first_page (get_or headers k d) < from) → length pages ≡ sum_by page_count headers
built-count file headers from pages built last = built.counted ∙ sum_by-same (counted_below from) page_count headers same
  where
    same : (k : ℕ) (d : ProgramHeader) → k < length headers → counted_below from (get_or headers k d) ≡ page_count (get_or headers k d)
    same k d lt = elim (bool_cases (has_pages (get_or headers k d))) [
      | inr none ↦ counted-empty from (get_or headers k d) none ∙ sym (rw none refl)
      | inl some ↦ let early = last k d lt some in counted-under from (get_or headers k d) (elim (built.split k d lt some) [ inl low ↦ low | inr high ↦ absurd (omega arith) ])
    ]

-- no segment is left
pub built-pages : (file : List ℕ) (headers : List ProgramHeader) (from : ℕ) (pages : List ImagePage) → headers ≡ program_headers file → IsBuilt file headers from pages → ((k : ℕ) (d : ProgramHeader) → k < length headers → has_pages (get_or headers k d) ≡ true → first_page (get_or headers k d) < from) → ArePages file pages
built-pages file headers from pages table built last = record { rising = built.rising; present = present; whole = built.whole; count = count }
  where
    count : length pages ≡ sum_by page_count (program_headers file)
    count = built-count file headers from pages built last ∙ ap (sum_by page_count) table

    under : (n k : ℕ) (g : ProgramHeader) → k < length headers → get_or headers k g ≡ g → has_page n g ≡ true → n < from
    under n k g k_lt is has =
        let page = page_is n g has in
        let some : has_pages (get_or headers k g) ≡ true = subst (λ (x : ProgramHeader). has_pages x ≡ true) (sym is) (HasPage.pages page) in
        let first : first_page (get_or headers k g) ≡ first_page g = ap first_page is in
        let end : last_page (get_or headers k g) ≡ last_page g = ap last_page is in
        let early = last k g k_lt some in
        elim (built.split k g k_lt some) [ inl low ↦ omega (arith, HasPage.to page) | inr high ↦ absurd (omega arith) ]

    listed : (n : ℕ) → (k : ℕ) × (g : ProgramHeader) × (k < length headers) × (get_or headers k g ≡ g) × (has_page n g ≡ true) → n < from
    listed n (k, g, k_lt, is, has) = under n k g k_lt is has

    present : (n : ℕ) → Contains (numbers pages) n ↔ IsTrue (list_any (has_page n) (program_headers file))
    present n = subst (λ (hs : List ProgramHeader). Contains (numbers pages) n ↔ IsTrue (list_any (has_page n) hs)) table (
      (λ c. (built.present n (contains-below (numbers pages) from built.below n c)).0 c),
      (λ e. (built.present n (listed n (Any-from_list_any (has_page n) headers e))).1 e),
    )
