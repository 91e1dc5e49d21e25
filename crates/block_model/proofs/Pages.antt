-- What holds of the pages at each place of a run, and that brk(2), mmap(2), munmap(2) and mprotect(2) keep it: code stays, no page above the
-- break is mapped below mappings, and each frame is counted. Where mmap(2) puts a mapping, and which pages are in a run.
use Rattle.block_model.proofs.Common.{◌≡◌, ℕ, ◌+◌, ◌-◌, ◌*◌, ◌<◌, ◌≤◌, inl, inr, refl, sym, arith, Bool, true, false, cond, eqb, leb, ltb, Option, Some, None, Result, Ok, Err, zero, suc, ◌/◌, ◌⊎◌, ◌∷◌, ap, ◌∙◌, ◌&&◌, is_some, ◌%◌, List, not, is_none, EINVAL, Errno, FIRST_MAPPING_PAGE, FIRST_STACK_PAGE, MAPPING_START, PAGE_SIZE, PageRun, Pages, Setting, USER_END, and_parts, and_right, cases_lt, count_pages, each_page-at, eqb-true, false≢true, first_kernel, is_in, le-leb, le-ltb, leb-false, leb-true, lowest_hole, lt-leb, lt-ltb, ltb-false, not-false, not-true, pages_of, permission_of, run}
use Rattle.mach_types.proofs.Laws.{first_page-some, count_pages-more, count_pages-none}
use Rattle.mach_types.specs.declared.errors.TheConstants.{EACCES, ENOMEM}
use Rattle.mach_types.specs.declared.kernel_words.TheConstants.{MOST_PROT, PROT_EXEC, PROT_READ, PROT_WRITE}
use Rattle.mach_types.specs.Kernel.Pages.{fits_at, is_hole, can_execute, mapped_count, is_mapped, is_without_code}
use Rattle.mach_types.specs.Kernel.PageCalls.{address_of, has_prot, mmap_answer, permission_for, break_moved, break_run, free_past, mapped_at, may_move_break, mprotect_refusal, munmap_refusal, protected, unmapped}
use Rattle.elf_load.specs.Start.{start_runs}
use Rattle.block_model.specs.Layouts.{IsLaidOut, mapped_pages}

-- where a mapping begins that isn't refused
pub record IsPlaced (permission : ℕ → Option ℕ) (len at : ℕ) : Type 0 where
  pub first : ℕ
  pub is : at ≡ first * 4096
  pub low : FIRST_MAPPING_PAGE ≤ first
  pub high : first < FIRST_STACK_PAGE
  pub ends : first + pages_of len ≤ FIRST_STACK_PAGE
  pub hole : is_hole permission first (pages_of len) ≡ true

pub placed_by : (permission : ℕ → Option ℕ) (len at : ℕ) (o : Option ℕ) → lowest_hole permission (pages_of len) ≡ o
    → address_of o ≡ Ok at → IsPlaced permission len at
unfolding lowest_hole
placed_by permission len at None found is = cc
placed_by permission len at (Some first) found is =
    let one = first_page-some (fits_at permission (pages_of len)) FIRST_MAPPING_PAGE (FIRST_STACK_PAGE - FIRST_MAPPING_PAGE) first found in
    let address : first * PAGE_SIZE ≡ at = cc in
    record {
      first = first;
      is = sym address;
      low = one.low;
      high = let end = one.high in omega arith;
      ends = leb-true (first + pages_of len) FIRST_STACK_PAGE (and_parts (is_hole permission first (pages_of len)) (leb (first + pages_of len) FIRST_STACK_PAGE) one.passes).1;
      hole = (and_parts (is_hole permission first (pages_of len)) (leb (first + pages_of len) FIRST_STACK_PAGE) one.passes).0;
    }

-- a mapping that isn't refused passed each test: there are frames for it, and it begins at the lowest hole
passed_by : (b : Bool) (e : Errno) (x : Result ℕ Errno) (at : ℕ) → cond b (Err e) x ≡ Ok at → (b ≡ false) × (x ≡ Ok at)
passed_by true e x at is = cc
passed_by false e x at is = (refl, is)

passed_tests : (permission : ℕ → Option ℕ) (free len prot at : ℕ) → mmap_answer permission free len prot ≡ Ok at
    → (ltb free (pages_of len) ≡ false) × (address_of (lowest_hole permission (pages_of len)) ≡ Ok at)
passed_tests permission free len prot at is =
    passed_by (ltb free (pages_of len)) ENOMEM _ at
    (passed_by (has_prot PROT_EXEC prot) EACCES _ at (passed_by (ltb MOST_PROT prot) EINVAL _ at (passed_by (eqb len 0) EINVAL _ at is).1).1).1

pub placed : (permission : ℕ → Option ℕ) (free len prot at : ℕ) → mmap_answer permission free len prot ≡ Ok at
    → IsPlaced permission len at
placed permission free len prot at is =
    placed_by permission len at (lowest_hole permission (pages_of len)) refl (passed_tests permission free len prot at is).1

pub is_inside : (r : PageRun) (n : ℕ) → is_in r n ≡ true → (r.first ≤ n) × (n < r.first + r.count)
is_inside r n is = elim (cases_lt n r.first) [
  | inl low ↦ let no : false ≡ true = rw (← lt-leb r.first n low) (and_parts (leb r.first n) (ltb n (r.first + r.count)) is).0 in absurd (false≢true no)
  | inr from ↦ elim (cases_lt n (r.first + r.count)) [
    | inl to ↦ (from, to)
    | inr high ↦ let no : false ≡ true = rw (← le-ltb n (r.first + r.count) high) (and_parts (leb r.first n) (ltb n (r.first + r.count)) is).1 in absurd (false≢true no)
  ]
]

-- the permission of page n at the start
abbrev pub start_permission : Setting → ℕ → Option ℕ
start_permission s n = permission_of (start_runs s.program.pages) n

-- the pages of a run of a process whose program is laid out
pub record IsPaged (s : Setting) (p : Pages) : Type 0 where
  pub laid : IsLaidOut s.program
  pub high : p.break_at ≤ MAPPING_START
  pub clear : (n : ℕ) → pages_of p.break_at ≤ n → n < FIRST_MAPPING_PAGE → permission_of p.runs n ≡ None
  pub code : (n : ℕ) → can_execute (permission_of p.runs n) ≡ can_execute (start_permission s n)
  pub same : (n : ℕ) → can_execute (start_permission s n) ≡ true → permission_of p.runs n ≡ start_permission s n
  pub upper : (n : ℕ) → FIRST_STACK_PAGE ≤ n → start_permission s n ≡ None → permission_of p.runs n ≡ None
  pub frames : p.free + mapped_pages p ≡ (first_kernel s).pages.free + mapped_pages (first_kernel s).pages

pub paged_start : (s : Setting) → IsLaidOut s.program → IsPaged s (first_kernel s).pages
paged_start s laid = record { laid = laid; high = laid.low; clear = laid.clear; code = λ n. refl; same = λ n is. refl; upper = λ n from none. none; frames = refl }

-- pages are counted alike by tests that agree on them
count_same : (t u : ℕ → Bool) (first count : ℕ) → ((k : ℕ) → first ≤ k → k < first + count → t k ≡ u k) → count_pages t first count ≡ count_pages u first count
unfolding count_pages
count_same t u first zero same = refl
count_same t u first (suc more) same =
    let rest = count_same t u (first + 1) more (λ k low high. same k (omega arith) (omega arith)) in
    rw (same first (omega arith) (omega arith), rest) refl

-- where all pass, all are counted
pub count_all : (t : ℕ → Bool) (first count : ℕ) → ((k : ℕ) → first ≤ k → k < first + count → t k ≡ true) → count_pages t first count ≡ count
unfolding count_pages
count_all t first zero all = refl
count_all t first (suc more) all =
    let rest = count_all t (first + 1) more (λ k low high. all k (omega arith) (omega arith)) in
    rw (all first (omega arith) (omega arith), rest) (omega arith)

split_count : (v : ℕ → Bool) (a c rest total : ℕ) → a + (c + rest) ≡ total
    → count_pages v 0 total ≡ count_pages v 0 a + (count_pages v a c + count_pages v (a + c) rest)
split_count v a c rest total all =
    let whole : count_pages v 0 (a + (c + rest)) ≡ count_pages v 0 total = ap (count_pages v 0) all in
    let first = count_pages-more v 0 a (c + rest) in
    let zero_and : 0 + a ≡ a = omega arith in
    let start : count_pages v (0 + a) (c + rest) ≡ count_pages v a (c + rest) = ap (λ n. count_pages v n (c + rest)) zero_and in
    let second = count_pages-more v a c rest in
    omega (arith, whole, first, start, second)

-- a test that changed for pages of a run alone, which may have no page
counted_within : (t u : ℕ → Bool) (a c total : ℕ) → a + c ≤ total → ((k : ℕ) → k < a → t k ≡ u k) → ((k : ℕ) → a + c ≤ k → t k ≡ u k)
    → count_pages u 0 total + count_pages t a c ≡ count_pages t 0 total + count_pages u a c
counted_within t u a c total fits before after =
    let rest = total - (a + c) in
    let all : a + (c + rest) ≡ total = omega arith in
    let low = count_same t u 0 a (λ k from to. before k (omega arith)) in
    let high = count_same t u (a + c) rest (λ k from to. after k from) in
    let left = split_count t a c rest total all in
    let right = split_count u a c rest total all in
    omega (arith, low, high, left, right)

counted_over : (t u : ℕ → Bool) (a c total : ℕ) → (c ≡ 0) ⊎ (a + c ≤ total) → ((k : ℕ) → k < a → t k ≡ u k) → ((k : ℕ) → a + c ≤ k → t k ≡ u k)
    → count_pages u 0 total + count_pages t a c ≡ count_pages t 0 total + count_pages u a c
counted_over t u a c total (inr fits) before after = counted_within t u a c total fits before after
counted_over t u a c total (inl none) before after =
    let every : (k : ℕ) → t k ≡ u k = λ k. elim (cases_lt k a) [ inl low ↦ before k low | inr high ↦ after k (omega (arith, none)) ] in
    let all = count_same t u 0 total (λ k from to. every k) in
    let here = count_same t u a c (λ k from to. every k) in
    omega (arith, all, here)

-- no mapping lets code be executed
no_code_by : (w r : Bool) → can_execute (Some (cond w 6 (cond r 4 0))) ≡ false
no_code_by true r = refl
no_code_by false true = refl
no_code_by false false = refl

pub no_code : (prot : ℕ) → can_execute (Some (permission_for prot)) ≡ false
no_code prot = no_code_by (has_prot PROT_WRITE prot) (has_prot PROT_READ prot)

pub outside_below : (r : PageRun) (n : ℕ) → n < r.first → is_in r n ≡ false
outside_below r n low = rw (lt-leb r.first n low) refl

pub outside_above : (r : PageRun) (n : ℕ) → r.first + r.count ≤ n → is_in r n ≡ false
outside_above r n high = and_right (leb r.first n) (ltb n (r.first + r.count)) (le-ltb n (r.first + r.count) high)

pub inside_is : (r : PageRun) (n : ℕ) → r.first ≤ n → n < r.first + r.count → is_in r n ≡ true
inside_is r n low high = rw (le-leb r.first n low, lt-ltb n (r.first + r.count) high) refl

-- a run that lies over pages without code, and brings none
module _ (s : Setting) (p : Pages) (is : IsPaged s p) (r : PageRun) (free break_at : ℕ)
    (bare : can_execute r.permission ≡ false)
    (over : (n : ℕ) → r.first ≤ n → n < r.first + r.count → can_execute (permission_of p.runs n) ≡ false)
    (high : break_at ≤ MAPPING_START)
    (clear : (n : ℕ) → pages_of break_at ≤ n → n < FIRST_MAPPING_PAGE → permission_of (r ∷ p.runs) n ≡ None)
    (upper : (n : ℕ) → FIRST_STACK_PAGE ≤ n → permission_of p.runs n ≡ None → permission_of (r ∷ p.runs) n ≡ None)
    (fits : (r.count ≡ 0) ⊎ (r.first + r.count ≤ USER_END / PAGE_SIZE))
    (frames : free + mapped_count (permission_of (r ∷ p.runs)) r.first r.count ≡ p.free + mapped_count (permission_of p.runs) r.first r.count)
  where
    now : ℕ → Option ℕ
    now n = permission_of (r ∷ p.runs) n

    -- a page of the run, or one beside it
    inside_or_out : (n : ℕ) → ((r.first ≤ n) × (n < r.first + r.count)) ⊎ (is_in r n ≡ false)
    inside_or_out n = elim (cases_lt n r.first) [
      | inl low ↦ inr (outside_below r n low)
      | inr from ↦ elim (cases_lt n (r.first + r.count)) [ inl to ↦ inl (from, to) | inr past ↦ inr (outside_above r n past) ]
    ]

    beside : (n : ℕ) → is_in r n ≡ false → permission_of (r ∷ p.runs) n ≡ permission_of p.runs n
    beside n outside = rw outside refl

    code_over : (n : ℕ) → can_execute (permission_of (r ∷ p.runs) n) ≡ can_execute (permission_of p.runs n)
    code_over n = elim (inside_or_out n) [
      | inl inside ↦ rw (inside_is r n inside.0 inside.1) (bare ∙ sym (over n inside.0 inside.1))
      | inr outside ↦ ap can_execute (beside n outside)
    ]

    same_over : (n : ℕ) → can_execute (start_permission s n) ≡ true → permission_of (r ∷ p.runs) n ≡ start_permission s n
    same_over n code = elim (inside_or_out n) [
      | inl inside ↦ absurd (false≢true (sym (over n inside.0 inside.1) ∙ is.code n ∙ code))
      | inr outside ↦ beside n outside ∙ is.same n code
    ]

    frames_over : free + mapped_count (permission_of (r ∷ p.runs)) 0 (USER_END / PAGE_SIZE) ≡ (first_kernel s).pages.free + mapped_pages (first_kernel s).pages
    frames_over =
        let t : ℕ → Bool = λ n. is_some (permission_of p.runs n) in
        let u : ℕ → Bool = λ n. is_some (permission_of (r ∷ p.runs) n) in
        let counted = counted_over t u r.first r.count (USER_END / PAGE_SIZE) fits
        (λ k low. ap (λ (o : Option ℕ). is_some o) (sym (beside k (outside_below r k low))))
        (λ k high. ap (λ (o : Option ℕ). is_some o) (sym (beside k (outside_above r k high)))) in
        let was = is.frames in
        omega (arith, counted, was, frames)

    pub paged_over : IsPaged s (record { runs = r ∷ p.runs; free = free; break_at = break_at })
    paged_over = record {
      laid = is.laid;
      high = high;
      clear = clear;
      code = λ n. code_over n ∙ is.code n;
      same = same_over;
      upper = λ n from none. upper n from (is.upper n from none);
      frames = frames_over;
    }

-- a call that isn't refused by a test
not_refused : (b : Bool) (e : Errno) (o : Option Errno) → cond b (Some e) o ≡ None → (b ≡ false) × (o ≡ None)
not_refused true e o is = cc
not_refused false e o is = (refl, is)

-- none of so many pages has code
bare_pages : (permission : ℕ → Option ℕ) (first count : ℕ) → is_without_code permission first count ≡ true
    → (n : ℕ) → first ≤ n → n < first + count → can_execute (permission n) ≡ false
bare_pages permission first count is n low high =
    not-true (can_execute (permission n)) (each_page-at (λ m. not (can_execute (permission m))) first count is n low high)

-- a page is within a run, or its permission stays
over_by : (r : PageRun) (rs : List PageRun) (n : ℕ) (b : Bool) → is_in r n ≡ b
    → ((permission_of (r ∷ rs) n ≡ r.permission) × ((r.first ≤ n) × (n < r.first + r.count))) ⊎ (permission_of (r ∷ rs) n ≡ permission_of rs n)
over_by r rs n true is = inl (rw is refl, is_inside r n is)
over_by r rs n false is = inr (rw is refl)

-- pages that are removed
module _ (s : Setting) (p : Pages) (is : IsPaged s p) (first count : ℕ) (fits : first + count ≤ USER_END / PAGE_SIZE)
    (bare : (n : ℕ) → first ≤ n → n < first + count → can_execute (permission_of p.runs n) ≡ false)
  where
    gone_inside : (n : ℕ) → first ≤ n → n < first + count → permission_of (run first count None ∷ p.runs) n ≡ None
    gone_inside n low high = rw (inside_is (run first count None) n low high) refl

    upper_without : (n : ℕ) → FIRST_STACK_PAGE ≤ n → permission_of p.runs n ≡ None → permission_of (run first count None ∷ p.runs) n ≡ None
    upper_without n from none = elim (over_by (run first count None) p.runs n (is_in (run first count None) n) refl) [
      | inl inside ↦ inside.0
      | inr same ↦ same ∙ none
    ]

    pub paged_without : (break_at : ℕ) → break_at ≤ MAPPING_START
        → ((n : ℕ) → pages_of break_at ≤ n → n < FIRST_MAPPING_PAGE → permission_of (run first count None ∷ p.runs) n ≡ None)
        → IsPaged s (record { runs = run first count None ∷ p.runs; free = p.free + mapped_count (permission_of p.runs) first count; break_at = break_at })
    paged_without break_at high clear =
        let none = count_pages-none (λ n. is_some (permission_of (run first count None ∷ p.runs) n)) first count (λ k low to. ap (λ (o : Option ℕ). is_some o) (gone_inside k low to)) in
        paged_over s p is (run first count None) (p.free + mapped_count (permission_of p.runs) first count) break_at refl bare high clear upper_without (inr fits) (omega (arith, none))

    clear_without : (n : ℕ) → pages_of p.break_at ≤ n → n < FIRST_MAPPING_PAGE → permission_of (run first count None ∷ p.runs) n ≡ None
    clear_without n low high = elim (over_by (run first count None) p.runs n (is_in (run first count None) n) refl) [
      | inl inside ↦ inside.0
      | inr same ↦ same ∙ is.clear n low high
    ]

    pub paged_removed : IsPaged s (record p { runs = run first count None ∷ p.runs; free = p.free + mapped_count (permission_of p.runs) first count })
    paged_removed = paged_without p.break_at is.high clear_without

pub paged_munmap : (s : Setting) (p : Pages) (at len : ℕ) → munmap_refusal (permission_of p.runs) at len ≡ None
    → IsPaged s p → IsPaged s (unmapped at len p)
paged_munmap s p at len free is =
    let one = not_refused (not (eqb (at % 4096) 0)) EINVAL _ free in
    let two = not_refused (eqb len 0) EINVAL _ one.1 in
    let three = not_refused (ltb USER_END (at + len)) EINVAL _ two.1 in
    let four = not_refused (not (is_without_code (permission_of p.runs) (at / 4096) (pages_of len))) EACCES _ three.1 in
    let aligned = eqb-true (at % 4096) 0 (not-false (eqb (at % 4096) 0) one.0) in
    let ends = ltb-false USER_END (at + len) three.0 in
    paged_removed s p is (at / 4096) (pages_of len) (omega (arith, aligned, ends))
    (bare_pages (permission_of p.runs) (at / 4096) (pages_of len) (not-false (is_without_code (permission_of p.runs) (at / 4096) (pages_of len)) four.0))

-- pages that get a permission without code: they were mapped, or none was and a frame is free for each
module _ (s : Setting) (p : Pages) (is : IsPaged s p) (first count permission : ℕ) (bare : can_execute (Some permission) ≡ false) where
  abbrev r : PageRun
  r = run first count (Some permission)

  given_inside : (n : ℕ) → first ≤ n → n < first + count → permission_of (r ∷ p.runs) n ≡ Some permission
  given_inside n low high = rw (inside_is r n low high) refl

  all_given : mapped_count (permission_of (r ∷ p.runs)) first count ≡ count
  all_given = count_all (λ n. is_some (permission_of (r ∷ p.runs) n)) first count (λ k low high. ap (λ (o : Option ℕ). is_some o) (given_inside k low high))

  pub paged_given : (break_at : ℕ) → ((n : ℕ) → first ≤ n → n < first + count → permission_of p.runs n ≡ None)
      → count ≤ p.free → break_at ≤ MAPPING_START → first + count ≤ FIRST_STACK_PAGE
      → ((n : ℕ) → pages_of break_at ≤ n → n < FIRST_MAPPING_PAGE → permission_of (r ∷ p.runs) n ≡ None)
      → IsPaged s (record { runs = r ∷ p.runs; free = p.free - count; break_at = break_at })
  paged_given break_at hole room high fits clear =
      let none = count_pages-none (λ n. is_some (permission_of p.runs n)) first count (λ k low to. ap (λ (o : Option ℕ). is_some o) (hole k low to)) in
      let all = all_given in
      paged_over s p is r (p.free - count) break_at bare (λ n low to. ap can_execute (hole n low to)) high clear upper (inr (omega (arith, fits))) (omega (arith, none, all))
    where
      upper : (n : ℕ) → FIRST_STACK_PAGE ≤ n → permission_of p.runs n ≡ None → permission_of (r ∷ p.runs) n ≡ None
      upper n from none = elim (over_by r p.runs n (is_in r n) refl) [
        | inl inside ↦ let past = inside.1.1 in absurd (omega (arith, fits))
        | inr same ↦ same ∙ none
      ]

  pub paged_kept : ((n : ℕ) → first ≤ n → n < first + count → is_some (permission_of p.runs n) ≡ true)
      → ((n : ℕ) → first ≤ n → n < first + count → can_execute (permission_of p.runs n) ≡ false)
      → (count ≡ 0) ⊎ (first + count ≤ USER_END / PAGE_SIZE)
      → IsPaged s (record p { runs = r ∷ p.runs })
  paged_kept mapped without fits =
      let were = count_all (λ n. is_some (permission_of p.runs n)) first count mapped in
      let all = all_given in
      paged_over s p is r p.free p.break_at bare without is.high clear upper fits (omega (arith, were, all))
    where
      upper : (n : ℕ) → FIRST_STACK_PAGE ≤ n → permission_of p.runs n ≡ None → permission_of (r ∷ p.runs) n ≡ None
      upper n from none = elim (over_by r p.runs n (is_in r n) refl) [
        | inl inside ↦ absurd (false≢true (sym (ap (λ (o : Option ℕ). is_some o) none) ∙ mapped n inside.1.0 inside.1.1))
        | inr same ↦ same ∙ none
      ]

      clear : (n : ℕ) → pages_of p.break_at ≤ n → n < FIRST_MAPPING_PAGE → permission_of (r ∷ p.runs) n ≡ None
      clear n low high = elim (over_by r p.runs n (is_in r n) refl) [
        | inl inside ↦ absurd (false≢true (sym (ap (λ (o : Option ℕ). is_some o) (is.clear n low high)) ∙ mapped n inside.1.0 inside.1.1))
        | inr same ↦ same ∙ is.clear n low high
      ]

protected_by : (s : Setting) (p : Pages) (at len prot : ℕ) (b : Bool) → eqb len 0 ≡ b → (at % 4096 ≡ 0)
    → cond b None (cond (ltb MOST_PROT prot) (Some EINVAL) (cond (has_prot PROT_EXEC prot) (Some EACCES) (cond (ltb USER_END (at + len)) (Some ENOMEM)
    (cond (not (is_mapped (permission_of p.runs) (at / 4096) (pages_of len))) (Some ENOMEM)
    (cond (not (is_without_code (permission_of p.runs) (at / 4096) (pages_of len))) (Some EACCES) None))))) ≡ None
    → IsPaged s p → IsPaged s (protected at len prot p)
protected_by s p at len prot true empty aligned free is =
    let none = eqb-true len 0 empty in
    paged_kept s p is (at / 4096) (pages_of len) (permission_for prot) (no_code prot)
    (λ n low high. absurd (omega (arith, none))) (λ n low high. absurd (omega (arith, none))) (inl (omega (arith, none)))
protected_by s p at len prot false some aligned free is =
    let one = not_refused (ltb MOST_PROT prot) EINVAL _ free in
    let two = not_refused (has_prot PROT_EXEC prot) EACCES _ one.1 in
    let three = not_refused (ltb USER_END (at + len)) ENOMEM _ two.1 in
    let four = not_refused (not (is_mapped (permission_of p.runs) (at / 4096) (pages_of len))) ENOMEM _ three.1 in
    let five = not_refused (not (is_without_code (permission_of p.runs) (at / 4096) (pages_of len))) EACCES _ four.1 in
    let ends = ltb-false USER_END (at + len) three.0 in
    paged_kept s p is (at / 4096) (pages_of len) (permission_for prot) (no_code prot)
    (λ n low high. each_page-at (λ m. is_some (permission_of p.runs m)) (at / 4096) (pages_of len) (not-false (is_mapped (permission_of p.runs) (at / 4096) (pages_of len)) four.0) n low high)
    (bare_pages (permission_of p.runs) (at / 4096) (pages_of len) (not-false (is_without_code (permission_of p.runs) (at / 4096) (pages_of len)) five.0))
    (inr (omega (arith, aligned, ends)))

pub paged_mprotect : (s : Setting) (p : Pages) (at len prot : ℕ) → mprotect_refusal (permission_of p.runs) at len prot ≡ None
    → IsPaged s p → IsPaged s (protected at len prot p)
paged_mprotect s p at len prot free is =
    let one = not_refused (not (eqb (at % 4096) 0)) EINVAL _ free in
    protected_by s p at len prot (eqb len 0) refl (eqb-true (at % 4096) 0 (not-false (eqb (at % 4096) 0) one.0)) one.1 is

-- mmap(2)
none_there : (o : Option ℕ) → is_none o ≡ true → o ≡ None
none_there None is = refl
none_there (Some x) is = absurd (false≢true is)

pub paged_mmap : (s : Setting) (p : Pages) (len prot at : ℕ) → mmap_answer (permission_of p.runs) p.free len prot ≡ Ok at
    → IsPaged s p → IsPaged s (mapped_at at len prot p)
paged_mmap s p len prot at answer is =
    let place = placed (permission_of p.runs) p.free len prot at answer in
    let room = ltb-false p.free (pages_of len) (passed_tests (permission_of p.runs) p.free len prot at answer).0 in
    let place_is = place.is in
    let begins : at / 4096 ≡ place.first = omega arith in
    let ends = place.ends in
    let from = place.low in
    paged_given s p is (at / 4096) (pages_of len) (permission_for prot) (no_code prot) p.break_at
    (λ n low high. none_there (permission_of p.runs n) (each_page-at (λ m. is_none (permission_of p.runs m)) place.first (pages_of len) place.hole n (omega (arith, begins)) (omega (arith, begins))))
    room is.high (omega (arith, begins, ends))
    (λ n low high. ap (λ b. cond b (Some (permission_for prot)) (permission_of p.runs n)) (outside_below (run (at / 4096) (pages_of len) (Some (permission_for prot))) n (omega (arith, begins, from))) ∙ is.clear n low high)

-- brk(2): the program's own pages have all its code
module _ (s : Setting) (p : Pages) (is : IsPaged s p) (at : ℕ) where
  above_bare : (n : ℕ) → pages_of s.program.break_at ≤ n → n < FIRST_MAPPING_PAGE → can_execute (permission_of p.runs n) ≡ false
  above_bare n low high = is.code n ∙ ap can_execute (is.laid.clear n low high)

  grown : p.break_at ≤ at → at ≤ MAPPING_START → pages_of at - pages_of p.break_at ≤ p.free
      → IsPaged s (record { runs = run (pages_of p.break_at) (pages_of at - pages_of p.break_at) (Some 6) ∷ p.runs; free = p.free - (pages_of at - pages_of p.break_at); break_at = at })
  grown up low room =
      paged_given s p is (pages_of p.break_at) (pages_of at - pages_of p.break_at) 6 refl at
      (λ n from to. is.clear n from (omega arith)) room low (omega arith)
      (λ n from to. elim (over_by (run (pages_of p.break_at) (pages_of at - pages_of p.break_at) (Some 6)) p.runs n (is_in (run (pages_of p.break_at) (pages_of at - pages_of p.break_at) (Some 6)) n) refl) [
        | inl inside ↦ let below = inside.1.1 in absurd (omega arith)
        | inr same ↦ same ∙ is.clear n (omega arith) to
      ])

  shrunk : at < p.break_at → s.program.break_at ≤ at
      → IsPaged s (record { runs = run (pages_of at) (pages_of p.break_at - pages_of at) None ∷ p.runs; free = p.free + mapped_count (permission_of p.runs) (pages_of at) (pages_of p.break_at - pages_of at); break_at = at })
  shrunk down low =
      let most = is.high in
      paged_without s p is (pages_of at) (pages_of p.break_at - pages_of at) (omega arith)
      (λ n from to. above_bare n (omega arith) (omega arith)) at (omega arith)
      (λ n from to. elim (over_by (run (pages_of at) (pages_of p.break_at - pages_of at) None) p.runs n (is_in (run (pages_of at) (pages_of p.break_at - pages_of at) None) n) refl) [
        | inl inside ↦ inside.0
        | inr same ↦ elim (cases_lt n (pages_of p.break_at)) [
          | inl below ↦ rw (inside_is (run (pages_of at) (pages_of p.break_at - pages_of at) None) n from (omega arith)) refl
          | inr above ↦ same ∙ is.clear n above to
        ]
      ])

  moved_by : (b : Bool) → leb p.break_at at ≡ b → s.program.break_at ≤ at → at ≤ MAPPING_START → pages_of at - pages_of p.break_at ≤ p.free
      → IsPaged s (record {
        runs = cond b (run (pages_of p.break_at) (pages_of at - pages_of p.break_at) (Some 6)) (run (pages_of at) (pages_of p.break_at - pages_of at) None) ∷ p.runs;
        free = cond b (p.free - (pages_of at - pages_of p.break_at)) (p.free + mapped_count (permission_of p.runs) (pages_of at) (pages_of p.break_at - pages_of at));
        break_at = at;
      })
  moved_by true up from to room = grown (leb-true p.break_at at up) to room
  moved_by false down from to room = shrunk (leb-false p.break_at at down) from

  kept_by : (b : Bool) → may_move_break s.program.break_at p.free p.break_at at ≡ b
      → IsPaged s (cond b (record { runs = break_run p.break_at at ∷ p.runs; free = free_past (permission_of p.runs) p.free p.break_at at; break_at = at }) p)
  kept_by false may = is
  kept_by true may =
      let both = and_parts (leb s.program.break_at at && leb at MAPPING_START) (leb (pages_of at - pages_of p.break_at) p.free) may in
      let ends = and_parts (leb s.program.break_at at) (leb at MAPPING_START) both.0 in
      moved_by (leb p.break_at at) refl (leb-true s.program.break_at at ends.0) (leb-true at MAPPING_START ends.1) (leb-true (pages_of at - pages_of p.break_at) p.free both.1)

  pub paged_brk : IsPaged s (break_moved s.program.break_at at p)
  paged_brk = kept_by (may_move_break s.program.break_at p.free p.break_at at) refl
