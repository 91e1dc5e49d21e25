-- Pages one behind the other: what a run of pages does to what a map shows, and what is known on the way.
use Rattle.std.proofs.Common.{◌≡◌, ℕ, ◌+◌, ◌-◌, ◌/◌, ◌%◌, ◌<◌, ◌≤◌, ◌&&◌, inl, inr, ◌⊎◌, Bool, true, false, not, cond, is_none, is_some, Option, Some, None, nat_eq, nat_le, refl, sym, ap, ◌∙◌, arith, eq-eqb}
use Rattle.std.specs.Option.{option_map}
use Rattle.std.proofs.lemmas.Bool.{cases_eq, cases_lt, le-leb, le-ltb, leb-true, lt-leb, lt-ltb, ne_eqb}
use Rattle.mach_types.specs.Kernel.Pages.{PageRun, can_execute, first_page, fits_at, is_hole, is_in, is_without_code, lowest_hole, mapped_count, pages_of, run, run_over}
use Rattle.mach_types.specs.Kernel.PageCalls.{has_prot, permission_for}
use Rattle.mach_types.proofs.Laws.{count_pages-more, count_pages-none, count_pages-one, each_page-at, each_page-fails, each_page-of, first_page-is, first_page-no, first_page-none, first_page-some}
use Rattle.frame_pool.proofs.Laws.{fresh-at}
use Rattle.page_map.specs.Map.{Map, Page, break_in, break_start_in, byte_at, bytes_if, code_in, free_in, held_in, held_over, held_zeroed, page_in, page_over, permission_in, protected_page, zero_page, zeroed_page}
use Rattle.page_map.specs.Mapping.{CanLie}

-- pages that are in a run, and that aren't
pub in-run : (first count n : ℕ) (permission : Option ℕ) → first ≤ n → n < first + count → is_in (run first count permission) n ≡ true
in-run first count n permission from to = rw (le-leb first n from, lt-ltb n (first + count) to) refl

pub below-run : (first count n : ℕ) (permission : Option ℕ) → n < first → is_in (run first count permission) n ≡ false
below-run first count n permission low = rw (lt-leb first n low) refl

pub past-run : (first count n : ℕ) (permission : Option ℕ) → first + count ≤ n → is_in (run first count permission) n ≡ false
past-run first count n permission high = rw (le-leb first n (omega arith), le-ltb n (first + count) high) refl

-- the pages of a run that is one longer
pub longer-run : (first k n : ℕ) (permission : Option ℕ) → is_in (run first (k + 1) permission) n ≡ cond (nat_eq n (first + k)) true (is_in (run first k permission) n)
longer-run first k n permission = elim (cases_eq n (first + k)) [
  | inl same ↦ rw (eq-eqb n (first + k) same) (in-run first (k + 1) n permission (omega arith) (omega arith))
  | inr two ↦ rw (ne_eqb n (first + k) two) (elim (cases_lt n first) [
    | inl low ↦ below-run first (k + 1) n permission low ∙ sym (below-run first k n permission low)
    | inr from ↦ elim (cases_lt n (first + k)) [
      | inl to ↦ in-run first (k + 1) n permission from (omega arith) ∙ sym (in-run first k n permission from to)
      | inr high ↦ past-run first (k + 1) n permission (omega arith) ∙ sym (past-run first k n permission high)
    ]
  ])
]

none-of : (o : Option ℕ) → is_some o ≡ false → o ≡ None
none-of None e = refl
none-of (Some x) e = cc

not-none : (o : Option ℕ) → is_some o ≡ true → is_none o ≡ false
not-none None e = cc
not-none (Some x) e = refl

is-none : (o : Option ℕ) → is_some o ≡ false → is_none o ≡ true
is-none None e = refl
is-none (Some x) e = cc

-- so many pages fit nowhere before a page
pub record NoHoleBefore (permission : ℕ → Option ℕ) (count first : ℕ) : Type 0 where
  pub low : 33554432 ≤ first
  pub high : first ≤ 67108608
  pub none : (k : ℕ) → 33554432 ≤ k → k < first → fits_at permission count k ≡ false

and-left : (b c : Bool) → b ≡ false → (b && c) ≡ false
and-left true c e = cc
and-left false c e = refl

and-right : (b c : Bool) → c ≡ false → (b && c) ≡ false
and-right true c e = e
and-right false c e = refl

and-both : (b c : Bool) → b ≡ true → c ≡ true → (b && c) ≡ true
and-both true c e f = f
and-both false c e f = e

-- and none before the first page that isn't mapped
pub hole-start : (permission : ℕ → Option ℕ) (count first : ℕ) → 0 < count → 33554432 ≤ first → first ≤ 67108608
    → ((n : ℕ) → 33554432 ≤ n → n < first → is_some (permission n) ≡ true) → NoHoleBefore permission count first
hole-start permission count first some from end filled = record {
  low = from;
  high = end;
  none = λ k after below.
      and-left (is_hole permission k count) (nat_le (k + count) 67108608)
      (each_page-fails (λ j. is_none (permission j)) k count k (omega arith) (omega arith) (not-none (permission k) (filled k after below)));
}

module _ (permission : ℕ → Option ℕ) (count first : ℕ) (before : NoHoleBefore permission count first) where
  -- a mapped page is passed, which stands in the way
  pub hole-step : (end n : ℕ) → end ≡ first + count → end ≤ 67108608 → first_page (λ k. is_some (permission k)) first (end - first) ≡ Some n
      → NoHoleBefore permission count (n + 1)
  hole-step end n is_end fits found =
      let is = first_page-some (λ k. is_some (permission k)) first (end - first) n found in
      let low = before.low in
      let from : first ≤ n = is.low in
      let to : n < first + (end - first) = is.high in
      record {
        low = omega arith;
        high = omega arith;
        none = λ k after below. elim (cases_lt k first) [
          | inl early ↦ before.none k after early
          | inr late ↦
              and-left (is_hole permission k count) (nat_le (k + count) 67108608)
              (each_page-fails (λ j. is_none (permission j)) k count n (omega arith) (omega arith) (not-none (permission n) is.passes))
        ];
      }

  -- the pages fit
  pub hole-found : (end : ℕ) → 0 < count → end ≡ first + count → end ≤ 67108608
      → first_page (λ k. is_some (permission k)) first (end - first) ≡ None → Some first ≡ lowest_hole permission count
  unfolding lowest_hole
  hole-found end some is_end fits none =
      let low = before.low in
      let all : is_hole permission first count ≡ true =
      each_page-of (λ j. is_none (permission j)) first count (λ j from to.
      is-none (permission j) (first_page-no (λ k. is_some (permission k)) first (end - first) none j from (omega arith))) in
      sym (first_page-is (fits_at permission count) 33554432 33554176 first low (omega arith)
      (and-both (is_hole permission first count) (nat_le (first + count) 67108608) all (le-leb (first + count) 67108608 (omega arith)))
      before.none)

  -- they fit nowhere
  pub hole-none : (end : ℕ) → end ≡ first + count → 67108608 < end → None ≡ lowest_hole permission count
  unfolding lowest_hole
  hole-none end is_end past =
      sym (first_page-none (fits_at permission count) 33554432 33554176 (λ k after below. elim (cases_lt k first) [
        | inl early ↦ before.none k after early
        | inr late ↦
            and-right (is_hole permission k count) (nat_le (k + count) 67108608) (lt-leb (k + count) 67108608 (omega arith))
      ]))

-- no page before one can be executed
pub record NoCodeBefore (permission : ℕ → Option ℕ) (first count from : ℕ) : Type 0 where
  pub low : first ≤ from
  pub high : from ≤ first + count
  pub none : (k : ℕ) → first ≤ k → k < from → can_execute (permission k) ≡ false

module _ (permission : ℕ → Option ℕ) (first count from : ℕ) (before : NoCodeBefore permission first count from) where
  pub code-step : (end n : ℕ) → end ≡ first + count → first_page (λ k. is_some (permission k)) from (end - from) ≡ Some n
      → can_execute (permission n) ≡ false → NoCodeBefore permission first count (n + 1)
  code-step end n is_end found no_code =
      let is = first_page-some (λ k. is_some (permission k)) from (end - from) n found in
      let low = before.low in
      let high = before.high in
      let past : from ≤ n = is.low in
      let to : n < from + (end - from) = is.high in
      record {
        low = omega arith;
        high = omega arith;
        none = λ k after below. elim (cases_lt k from) [
          | inl early ↦ before.none k after early
          | inr late ↦ elim (cases_eq k n) [
            | inl same ↦ ap (λ j. can_execute (permission j)) same ∙ no_code
            | inr two ↦ ap can_execute (none-of (permission k) (is.before k late (omega arith)))
          ]
        ];
      }

  pub code-none : (end : ℕ) → end ≡ first + count → first_page (λ k. is_some (permission k)) from (end - from) ≡ None
      → true ≡ is_without_code permission first count
  code-none end is_end none =
      sym (each_page-of (λ k. not (can_execute (permission k))) first count (λ k after below. elim (cases_lt k from) [
        | inl early ↦ ap not (before.none k after early)
        | inr late ↦
            ap (λ o. not (can_execute o)) (none-of (permission k) (first_page-no (λ j. is_some (permission j)) from (end - from) none k late (omega arith)))
      ]))

  pub code-found : (end n : ℕ) → end ≡ first + count → first_page (λ k. is_some (permission k)) from (end - from) ≡ Some n
      → can_execute (permission n) ≡ true → false ≡ is_without_code permission first count
  code-found end n is_end found code =
      let is = first_page-some (λ k. is_some (permission k)) from (end - from) n found in
      let low = before.low in
      let past : from ≤ n = is.low in
      let to : n < from + (end - from) = is.high in
      sym (each_page-fails (λ k. not (can_execute (permission k))) first count n (omega arith) (omega arith) (ap not code))

-- the pages of a run before a page were removed
pub record IsRemovedTo (m0 m : Map) (first count from : ℕ) : Type 0 where
  pub low : first ≤ from
  pub high : from ≤ first + count
  pub pages : (n : ℕ) → page_in m n ≡ page_over (run first (from - first) None) (page_in m0) n
  pub free : free_in m ≡ free_in m0 + mapped_count (permission_in m0) first (from - first)
  pub break_at : break_in m ≡ break_in m0
  pub break_start : break_start_in m ≡ break_start_in m0

page-over-in : (first count n : ℕ) (permission : Option ℕ) (page : ℕ → Option Page) → first ≤ n → n < first + count
    → page_over (run first count permission) page n ≡ option_map zero_page permission
page-over-in first count n permission page from to = rw (in-run first count n permission from to) refl

page-over-out : (first count n : ℕ) (permission : Option ℕ) (page : ℕ → Option Page) → (n < first) ⊎ (first + count ≤ n)
    → page_over (run first count permission) page n ≡ page n
page-over-out first count n permission page (inl low) = rw (below-run first count n permission low) refl
page-over-out first count n permission page (inr high) = rw (past-run first count n permission high) refl

no-permission : (o : Option Page) → is_some (option_map (λ (p : Page). p.permission) o) ≡ false → o ≡ None
no-permission None e = refl
no-permission (Some p) e = cc

-- a page with a permission is mapped
pub is-mapped : (m : Map) (n : ℕ) → is_some (permission_in m n) ≡ true → is_some (page_in m n) ≡ true
is-mapped m n e = go (page_in m n) e
  where
    go : (o : Option Page) → is_some (option_map (λ (p : Page). p.permission) o) ≡ true → is_some o ≡ true
    go None f = f
    go (Some p) f = refl

-- none of the pages is removed yet
pub removed-start : (m : Map) (first count : ℕ) → IsRemovedTo m m first count first
removed-start m first count =
    let none : first - first ≡ 0 = omega arith in
    let zero_pages : mapped_count (permission_in m) first (first - first) ≡ 0 =
    count_pages-none (λ k. is_some (permission_in m k)) first (first - first) (λ k after below. absurd (omega arith)) in
    record {
      low = omega arith;
      high = omega arith;
      pages = λ n. sym (elim (cases_lt n first) [
        | inl early ↦ page-over-out first (first - first) n None (page_in m) (inl early)
        | inr late ↦ page-over-out first (first - first) n None (page_in m) (inr (omega arith))
      ]);
      free = omega arith;
      break_at = refl;
      break_start = refl;
    }

module _ (m0 m : Map) (first count from : ℕ) (before : IsRemovedTo m0 m first count from) where
  later-page : (n : ℕ) → from ≤ n → page_in m n ≡ page_in m0 n
  later-page n past =
      let low = before.low in
      before.pages n ∙ page-over-out first (from - first) n None (page_in m0) (inr (omega arith))

  later-permission : (n : ℕ) → from ≤ n → permission_in m n ≡ permission_in m0 n
  later-permission n past = ap (option_map (λ (p : Page). p.permission)) (later-page n past)

  -- the next page that is mapped was removed
  pub removed-step : (m' : Map) (end n : ℕ) → end ≡ first + count → first_page (λ k. is_some (permission_in m k)) from (end - from) ≡ Some n
      → ((k : ℕ) → page_in m' k ≡ cond (nat_eq k n) None (page_in m k)) → free_in m' ≡ free_in m + 1
      → break_in m' ≡ break_in m → break_start_in m' ≡ break_start_in m → IsRemovedTo m0 m' first count (n + 1)
  removed-step m' end n is_end found pages more same_break same_start =
      let is = first_page-some (λ k. is_some (permission_in m k)) from (end - from) n found in
      let low = before.low in
      let high = before.high in
      let past : from ≤ n = is.low in
      let to : n < from + (end - from) = is.high in
      let mapped : is_some (permission_in m0 n) ≡ true = ap is_some (sym (later-permission n past)) ∙ is.passes in
      let gap : mapped_count (permission_in m0) from (n - from) ≡ 0 =
      count_pages-none (λ k. is_some (permission_in m0 k)) from (n - from) (λ k after below.
      ap is_some (sym (later-permission k after)) ∙ is.before k after (omega arith)) in
      let one : mapped_count (permission_in m0) n 1 ≡ 1 = count_pages-one (λ k. is_some (permission_in m0 k)) n mapped in
      let whole : n + 1 - first ≡ (from - first) + ((n - from) + 1) = omega arith in
      let second : first + (from - first) ≡ from = omega arith in
      let third : from + (n - from) ≡ n = omega arith in
      let sum : mapped_count (permission_in m0) first (n + 1 - first)
      ≡ mapped_count (permission_in m0) first (from - first) + mapped_count (permission_in m0) (first + (from - first)) ((n - from) + 1) =
      ap (mapped_count (permission_in m0) first) whole ∙ count_pages-more (λ k. is_some (permission_in m0 k)) first (from - first) ((n - from) + 1) in
      let rest : mapped_count (permission_in m0) (first + (from - first)) ((n - from) + 1)
      ≡ mapped_count (permission_in m0) from (n - from) + mapped_count (permission_in m0) (from + (n - from)) 1 =
      ap (λ k. mapped_count (permission_in m0) k ((n - from) + 1)) second ∙ count_pages-more (λ k. is_some (permission_in m0 k)) from (n - from) 1 in
      let last : mapped_count (permission_in m0) (from + (n - from)) 1 ≡ mapped_count (permission_in m0) n 1 =
      ap (λ k. mapped_count (permission_in m0) k 1) third in
      let was_free = before.free in
      record {
        low = omega arith;
        high = omega arith;
        pages = λ k. pages k ∙ elim (cases_eq k n) [
          | inl same ↦ rw (eq-eqb k n same) (sym (page-over-in first (n + 1 - first) k None (page_in m0) (omega arith) (omega arith)))
          | inr two ↦ rw (ne_eqb k n two) (elim (cases_lt k first) [
            | inl early ↦
                before.pages k ∙ page-over-out first (from - first) k None (page_in m0) (inl early)
                ∙ sym (page-over-out first (n + 1 - first) k None (page_in m0) (inl early))
            | inr after ↦ elim (cases_lt k from) [
              | inl done ↦
                  before.pages k ∙ page-over-in first (from - first) k None (page_in m0) after (omega arith)
                  ∙ sym (page-over-in first (n + 1 - first) k None (page_in m0) after (omega arith))
              | inr late ↦ elim (cases_lt k n) [
                | inl between ↦
                    no-permission (page_in m k) (is.before k late between)
                    ∙ sym (page-over-in first (n + 1 - first) k None (page_in m0) after (omega arith))
                | inr behind ↦
                    later-page k late ∙ sym (page-over-out first (n + 1 - first) k None (page_in m0) (inr (omega arith)))
              ]
            ]
          ])
        ];
        free = omega arith;
        break_at = same_break ∙ before.break_at;
        break_start = same_start ∙ before.break_start;
      }

  module _ (end : ℕ) (is_end : end ≡ first + count) (none : first_page (λ k. is_some (permission_in m k)) from (end - from) ≡ None) where
    none-left : (k : ℕ) → from ≤ k → k < first + count → is_some (permission_in m k) ≡ false
    none-left k late below =
        let low = before.low in
        let high = before.high in
        first_page-no (λ j. is_some (permission_in m j)) from (end - from) none k late (omega arith)

    pub removed-all : (n : ℕ) → page_in m n ≡ page_over (run first count None) (page_in m0) n
    removed-all n =
        let low = before.low in
        let high = before.high in
        elim (cases_lt n first) [
          | inl early ↦
              before.pages n ∙ page-over-out first (from - first) n None (page_in m0) (inl early)
              ∙ sym (page-over-out first count n None (page_in m0) (inl early))
          | inr after ↦ elim (cases_lt n (first + count)) [
            | inr past ↦
                later-page n (omega arith) ∙ sym (page-over-out first count n None (page_in m0) (inr past))
            | inl within ↦ elim (cases_lt n from) [
              | inl done ↦
                  before.pages n ∙ page-over-in first (from - first) n None (page_in m0) after (omega arith)
                  ∙ sym (page-over-in first count n None (page_in m0) after within)
              | inr late ↦
                  no-permission (page_in m n) (none-left n late within)
                  ∙ sym (page-over-in first count n None (page_in m0) after within)
            ]
          ]
        ]

    pub removed-count : free_in m ≡ free_in m0 + mapped_count (permission_in m0) first count
    removed-count =
        let low = before.low in
        let high = before.high in
        let whole : count ≡ (from - first) + (first + count - from) = omega arith in
        let second : first + (from - first) ≡ from = omega arith in
        let rest : mapped_count (permission_in m0) (first + (from - first)) (first + count - from) ≡ 0 =
        count_pages-none (λ k. is_some (permission_in m0 k)) (first + (from - first)) (first + count - from) (λ k after below.
        ap is_some (sym (later-permission k (omega arith))) ∙ none-left k (omega arith) (omega arith)) in
        let sum : mapped_count (permission_in m0) first count
        ≡ mapped_count (permission_in m0) first (from - first) + mapped_count (permission_in m0) (first + (from - first)) (first + count - from) =
        ap (mapped_count (permission_in m0) first) whole ∙ count_pages-more (λ k. is_some (permission_in m0 k)) first (from - first) (first + count - from) in
        let was_free = before.free in
        omega arith

-- what a page map shows once a run of pages was mapped or removed
held-run : (b : Bool) (permission : Option ℕ) (o : Option Page) (offset : ℕ)
    → option_map (λ (p : Page). byte_at offset p.bytes) (cond b (option_map zero_page permission) o)
    ≡ cond b (option_map (λ _. 0) permission) (option_map (λ (p : Page). byte_at offset p.bytes) o)
held-run true None o offset = refl
held-run true (Some permission) o offset = ap (λ x. Some (x % 256)) (fresh-at offset)
held-run false permission o offset = refl

no-code : (o : Option Page) → can_execute (option_map (λ (p : Page). p.permission) o) ≡ false → bytes_if 1 o ≡ None
no-code None e = refl
no-code (Some p) e = rw e refl

zero-permission : (permission : Option ℕ) → option_map (λ (p : Page). p.permission) (option_map zero_page permission) ≡ permission
zero-permission None = refl
zero-permission (Some permission) = refl

code-run : (b : Bool) (o new : Option Page) (permission : Option ℕ) → new ≡ cond b (option_map zero_page permission) o
    → can_execute permission ≡ false → (b ≡ true → can_execute (option_map (λ (p : Page). p.permission) o) ≡ false) → bytes_if 1 new ≡ bytes_if 1 o
code-run true o new permission is none old =
    ap (bytes_if 1) is ∙ no-code (option_map zero_page permission) (ap can_execute (zero-permission permission) ∙ none) ∙ sym (no-code o (old refl))
code-run false o new permission is none old = ap (bytes_if 1) is

module _ (m m' : Map) (r : PageRun) (pages : (n : ℕ) → page_in m' n ≡ page_over r (page_in m) n) where
  pub over-held : (a : ℕ) → held_in m' a ≡ held_over r (held_in m) a
  over-held a =
      ap (option_map (λ (p : Page). byte_at (a % 4096) p.bytes)) (pages (a / 4096))
      ∙ held-run (is_in r (a / 4096)) r.permission (page_in m (a / 4096)) (a % 4096)

  -- code stays where none of the pages can be executed, before and after
  pub over-code : can_execute r.permission ≡ false → ((n : ℕ) → is_in r n ≡ true → can_execute (permission_in m n) ≡ false) → (a : ℕ)
      → code_in m' a ≡ code_in m a
  over-code none old a =
      ap (option_map (byte_at (a % 4096)))
      (code-run (is_in r (a / 4096)) (page_in m (a / 4096)) (page_in m' (a / 4096)) r.permission (pages (a / 4096)) none (old (a / 4096)))

-- a page of a run
pub run-in : (first count n : ℕ) (permission : Option ℕ) → is_in (run first count permission) n ≡ true → (first ≤ n) × (n < first + count)
run-in first count n permission e = elim (cases_lt n first) [
  | inl low ↦ let out = below-run first count n permission low in absurd (cc)
  | inr from ↦ elim (cases_lt n (first + count)) [
    | inl to ↦ (from, to)
    | inr high ↦ let out = past-run first count n permission high in absurd (cc)
  ]
]

and-first : (b c : Bool) → (b && c) ≡ true → b ≡ true
and-first true c e = refl
and-first false c e = e

and-second : (b c : Bool) → (b && c) ≡ true → c ≡ true
and-second true c e = e
and-second false c e = cc

none-is : (o : Option ℕ) → is_none o ≡ true → o ≡ None
none-is None e = refl
none-is (Some x) e = cc

-- where pages fit, they are unmapped and lie among the mappings
pub record FitsAt (permission : ℕ → Option ℕ) (count first : ℕ) : Type 0 where
  pub low : 33554432 ≤ first
  pub high : first + count ≤ 67108608
  pub none : (n : ℕ) → first ≤ n → n < first + count → permission n ≡ None

pub hole-fits : (permission : ℕ → Option ℕ) (count first : ℕ) → Some first ≡ lowest_hole permission count → FitsAt permission count first
unfolding lowest_hole
hole-fits permission count first is =
    let found = first_page-some (fits_at permission count) 33554432 33554176 first (sym is) in
    record {
      low = found.low;
      high = leb-true (first + count) 67108608 (and-second (is_hole permission first count) (nat_le (first + count) 67108608) found.passes);
      none = λ n from to.
          none-is (permission n)
          (each_page-at (λ j. is_none (permission j)) first count (and-first (is_hole permission first count) (nat_le (first + count) 67108608) found.passes) n from to);
    }

-- the place where pages fit is one of the mappings, they fit there, and at no lower one
pub hole-from : (permission : ℕ → Option ℕ) (count n : ℕ) → lowest_hole permission count ≡ Some n → 33554432 ≤ n
hole-from permission count n is = let fits = hole-fits permission count n (sym is) in fits.low

pub hole-fit : (permission : ℕ → Option ℕ) (count n : ℕ) → lowest_hole permission count ≡ Some n → fits_at permission count n ≡ true
unfolding lowest_hole
hole-fit permission count n is = let found = first_page-some (fits_at permission count) 33554432 33554176 n is in found.passes

pub hole-before : (permission : ℕ → Option ℕ) (count n : ℕ) → lowest_hole permission count ≡ Some n
    → (k : ℕ) → 33554432 ≤ k → k < n → fits_at permission count k ≡ false
unfolding lowest_hole
hole-before permission count n is = let found = first_page-some (fits_at permission count) 33554432 33554176 n is in found.before

-- and where there is none, they fit nowhere
pub hole-nowhere : (permission : ℕ → Option ℕ) (count : ℕ) → 0 < count → lowest_hole permission count ≡ None
    → (k : ℕ) → 33554432 ≤ k → fits_at permission count k ≡ false
unfolding lowest_hole
hole-nowhere permission count some none k from = elim (cases_lt k 67108608) [
  | inl low ↦ first_page-no (fits_at permission count) 33554432 33554176 none k from (omega arith)
  | inr high ↦ and-right (is_hole permission k count) (nat_le (k + count) 67108608) (lt-leb (k + count) 67108608 (omega arith))
]

pub unmapped-page : (m : Map) (n : ℕ) → permission_in m n ≡ None → page_in m n ≡ None
unmapped-page m n e = no-permission (page_in m n) (ap is_some e)

-- a page of the mappings can lie there, with a permission by which it can't be executed
pub can_lie-high : (start at n permission : ℕ) → 33554432 ≤ n → n < 67108608 → CanLie start at n permission
can_lie-high start at n permission low high = record {
  inside = omega arith;
  gap = λ between. let from : 0x3FFFF40 ≤ n = between.0 in omega arith;
  past_break = λ _. low;
  code = λ _ _. low;
}

-- a page of the data can lie below the break, with a permission by which it can't be executed
pub can_lie-data : (start at n : ℕ) → n < 33554432 → n < pages_of at → CanLie start at n 6
can_lie-data start at n low below = record {
  inside = omega arith;
  gap = λ between. let from : 0x3FFFF40 ≤ n = between.0 in omega arith;
  past_break = λ past. absurd (omega arith);
  code = λ runs past. absurd (let none : can_execute (Some 6) ≡ false = refl in cc);
}

no-exec : (b c : Bool) → can_execute (Some (cond b 6 (cond c 4 0))) ≡ false
no-exec true c = refl
no-exec false true = refl
no-exec false false = refl

-- no prot lets a page be executed
pub prot-no-code : (prot : ℕ) → can_execute (Some (permission_for prot)) ≡ false
prot-no-code prot = no-exec (has_prot 2 prot) (has_prot 1 prot)

pub code-free : (permission : ℕ → Option ℕ) (first count : ℕ) → true ≡ is_without_code permission first count → (n : ℕ) → first ≤ n → n < first + count
    → can_execute (permission n) ≡ false
code-free permission first count e n from to =
    is-not (can_execute (permission n)) (each_page-at (λ k. not (can_execute (permission k))) first count (sym e) n from to)
  where
    is-not : (b : Bool) → not b ≡ true → b ≡ false
    is-not true f = sym f
    is-not false f = refl

-- pages that are protected
protected-permission : (b : Bool) (o new : Option Page) (permission : ℕ) → new ≡ cond b (option_map (protected_page permission) o) o
    → (b ≡ true → is_some o ≡ true) → option_map (λ (p : Page). p.permission) new ≡ cond b (Some permission) (option_map (λ (p : Page). p.permission) o)
protected-permission true None new permission is mapped = let none = mapped refl in cc
protected-permission true (Some p) new permission is mapped = ap (option_map (λ (q : Page). q.permission)) is
protected-permission false o new permission is mapped = ap (option_map (λ (q : Page). q.permission)) is

protected-bytes : (b : Bool) (o new : Option Page) (permission offset : ℕ) → new ≡ cond b (option_map (protected_page permission) o) o
    → option_map (λ (p : Page). byte_at offset p.bytes) new ≡ option_map (λ (p : Page). byte_at offset p.bytes) o
protected-bytes true None new permission offset is = ap (option_map (λ (q : Page). byte_at offset q.bytes)) is
protected-bytes true (Some p) new permission offset is = ap (option_map (λ (q : Page). byte_at offset q.bytes)) is
protected-bytes false o new permission offset is = ap (option_map (λ (q : Page). byte_at offset q.bytes)) is

after-protected : (o : Option Page) (permission : ℕ) → can_execute (Some permission) ≡ false
    → can_execute (option_map (λ (p : Page). p.permission) (option_map (protected_page permission) o)) ≡ false
after-protected None permission none = refl
after-protected (Some p) permission none = none

protected-code-bytes : (b : Bool) (o new : Option Page) (permission : ℕ) → new ≡ cond b (option_map (protected_page permission) o) o
    → can_execute (Some permission) ≡ false → (b ≡ true → can_execute (option_map (λ (p : Page). p.permission) o) ≡ false) → bytes_if 1 new ≡ bytes_if 1 o
protected-code-bytes true o new permission is none old =
    ap (bytes_if 1) is ∙ no-code (option_map (protected_page permission) o) (after-protected o permission none) ∙ sym (no-code o (old refl))
protected-code-bytes false o new permission is none old = ap (bytes_if 1) is

module _ (m m' : Map) (first count permission : ℕ)
    (pages : (n : ℕ) → page_in m' n ≡ cond (is_in (run first count (Some permission)) n) (option_map (protected_page permission) (page_in m n)) (page_in m n)) where
  pub protected-permissions : ((n : ℕ) → first ≤ n → n < first + count → is_some (page_in m n) ≡ true) → (n : ℕ)
      → permission_in m' n ≡ run_over (run first count (Some permission)) (permission_in m) n
  protected-permissions mapped n =
      protected-permission (is_in (run first count (Some permission)) n) (page_in m n) (page_in m' n) permission (pages n) (λ inside.
      let both = run-in first count n (Some permission) inside in mapped n both.0 both.1)

  pub protected-held : (a : ℕ) → held_in m' a ≡ held_in m a
  protected-held a =
      protected-bytes (is_in (run first count (Some permission)) (a / 4096)) (page_in m (a / 4096)) (page_in m' (a / 4096)) permission (a % 4096) (pages (a / 4096))

  pub protected-code : can_execute (Some permission) ≡ false → ((n : ℕ) → first ≤ n → n < first + count → can_execute (permission_in m n) ≡ false) → (a : ℕ)
      → code_in m' a ≡ code_in m a
  protected-code none old a =
      ap (option_map (byte_at (a % 4096)))
      (protected-code-bytes (is_in (run first count (Some permission)) (a / 4096)) (page_in m (a / 4096)) (page_in m' (a / 4096)) permission (pages (a / 4096)) none
      (λ inside. let both = run-in first count (a / 4096) (Some permission) inside in old (a / 4096) both.0 both.1))

-- pages that are zero
zeroed-permission : (b : Bool) (o new : Option Page) → new ≡ cond b (option_map zeroed_page o) o
    → option_map (λ (p : Page). p.permission) new ≡ option_map (λ (p : Page). p.permission) o
zeroed-permission true None new is = ap (option_map (λ (q : Page). q.permission)) is
zeroed-permission true (Some p) new is = ap (option_map (λ (q : Page). q.permission)) is
zeroed-permission false o new is = ap (option_map (λ (q : Page). q.permission)) is

zeroed-bytes : (b : Bool) (o new : Option Page) (offset : ℕ) → new ≡ cond b (option_map zeroed_page o) o
    → option_map (λ (p : Page). byte_at offset p.bytes) new
    ≡ cond b (option_map (λ _. 0) (option_map (λ (p : Page). byte_at offset p.bytes) o)) (option_map (λ (p : Page). byte_at offset p.bytes) o)
zeroed-bytes true None new offset is = ap (option_map (λ (q : Page). byte_at offset q.bytes)) is
zeroed-bytes true (Some p) new offset is =
    ap (option_map (λ (q : Page). byte_at offset q.bytes)) is ∙ ap Some (ap (λ (x : ℕ). x % 256) (fresh-at offset))
zeroed-bytes false o new offset is = ap (option_map (λ (q : Page). byte_at offset q.bytes)) is

zeroed-no-code : (b : Bool) (o new : Option Page) → new ≡ cond b (option_map zeroed_page o) o
    → (b ≡ true → can_execute (option_map (λ (p : Page). p.permission) o) ≡ false) → bytes_if 1 new ≡ bytes_if 1 o
zeroed-no-code true None new is old = ap (bytes_if 1) is
zeroed-no-code true (Some p) new is old =
    ap (bytes_if 1) is ∙ no-code (Some (zeroed_page p)) (old refl) ∙ sym (no-code (Some p) (old refl))
zeroed-no-code false o new is old = ap (bytes_if 1) is

module _ (m m' : Map) (first count : ℕ)
    (pages : (n : ℕ) → page_in m' n ≡ cond (is_in (run first count None) n) (option_map zeroed_page (page_in m n)) (page_in m n)) where
  pub zeroed-permissions : (n : ℕ) → permission_in m' n ≡ permission_in m n
  zeroed-permissions n = zeroed-permission (is_in (run first count None) n) (page_in m n) (page_in m' n) (pages n)

  pub zeroed-held : (a : ℕ) → held_in m' a ≡ held_zeroed (run first count None) (held_in m) a
  zeroed-held a = zeroed-bytes (is_in (run first count None) (a / 4096)) (page_in m (a / 4096)) (page_in m' (a / 4096)) (a % 4096) (pages (a / 4096))

  pub zeroed-code : ((n : ℕ) → first ≤ n → n < first + count → can_execute (permission_in m n) ≡ false) → (a : ℕ) → code_in m' a ≡ code_in m a
  zeroed-code old a =
      ap (option_map (byte_at (a % 4096)))
      (zeroed-no-code (is_in (run first count None) (a / 4096)) (page_in m (a / 4096)) (page_in m' (a / 4096)) (pages (a / 4096))
      (λ inside. let both = run-in first count (a / 4096) None inside in old (a / 4096) both.0 both.1))
