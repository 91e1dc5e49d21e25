-- Tests of pages one behind the other: all of them, how many of them, and the first of them.
use Rattle.std.proofs.Common.{ℕ, zero, suc, ◌≡◌, ◌+◌, ◌*◌, ◌/◌, ◌<◌, ◌≤◌, ◌&&◌, ◌⊎◌, inl, inr, Bool, true, false, cond, Option, Some, None, refl, sym, ap, ◌∙◌, arith}
use Rattle.std.proofs.lemmas.Bool.{and_parts, cases_eq, cases_lt, le-leb, le-ltb, lt-leb, lt-ltb}
use Rattle.mach_types.specs.Bytes.{byte_after}
use Rattle.mach_types.specs.Kernel.Pages.{PageRun, count_pages, each_page, first_page, is_in, zeros_of}

and-both : (b c : Bool) → b ≡ true → c ≡ true → (b && c) ≡ true
and-both true c e f = f
and-both false c e f = e

false_or_true : (b : Bool) → (b ≡ true → ⊥) → b ≡ false
false_or_true false never = refl
false_or_true true never = absurd (never refl)

true_false : (b : Bool) → (b ≡ true) ⊎ (b ≡ false)
true_false true = inl refl
true_false false = inr refl

some-one : (i j : ℕ) → Some i ≡ Some j → i ≡ j
some-one i j e = cc

step_yes : (b : Bool) (n : ℕ) (o : Option ℕ) → b ≡ true → elim b as (λ c. Option ℕ) [ true ↦ Some n | false ↦ o ] ≡ Some n
step_yes true n o e = refl
step_yes false n o e = cc

step_no : (b : Bool) (n : ℕ) (o : Option ℕ) → b ≡ false → elim b as (λ c. Option ℕ) [ true ↦ Some n | false ↦ o ] ≡ o
step_no true n o e = cc
step_no false n o e = refl

module _ (test : ℕ → Bool) where
  -- a test that holds of each page holds of one
  pub each_page-at : (first count : ℕ) → each_page test first count ≡ true → (n : ℕ) → first ≤ n → n < first + count → test n ≡ true
  unfolding each_page
  each_page-at first zero e n low high = absurd (omega arith)
  each_page-at first (suc more) e n low high = elim (cases_eq n first) [
    | inl same ↦ ap test same ∙ (and_parts (test first) (each_page test (first + 1) more) e).0
    | inr two ↦ each_page-at (first + 1) more (and_parts (test first) (each_page test (first + 1) more) e).1 n (omega arith) (omega arith)
  ]

  pub each_page-of : (first count : ℕ) → ((n : ℕ) → first ≤ n → n < first + count → test n ≡ true) → each_page test first count ≡ true
  unfolding each_page
  each_page-of first zero all = refl
  each_page-of first (suc more) all =
      and-both (test first) (each_page test (first + 1) more) (all first (omega arith) (omega arith))
      (each_page-of (first + 1) more (λ n low high. all n (omega arith) (omega arith)))

  -- one that fails for a page doesn't hold of each
  pub each_page-fails : (first count n : ℕ) → first ≤ n → n < first + count → test n ≡ false → each_page test first count ≡ false
  each_page-fails first count n low high e =
      false_or_true (each_page test first count) (λ all. let at = each_page-at first count all n low high in cc)

  -- the first page that passes: it is one of them, and none before it passes
  pub first_page-is : (first count n : ℕ) → first ≤ n → n < first + count → test n ≡ true
      → ((k : ℕ) → first ≤ k → k < n → test k ≡ false) → first_page test first count ≡ Some n
  unfolding first_page
  first_page-is first zero n low high passes before = absurd (omega arith)
  first_page-is first (suc more) n low high passes before = elim (cases_eq n first) [
    | inl same ↦
        step_yes (test first) first (first_page test (first + 1) more) (ap test (sym same) ∙ passes) ∙ ap Some (sym same)
    | inr two ↦
        step_no (test first) first (first_page test (first + 1) more) (before first (omega arith) (omega arith))
        ∙ first_page-is (first + 1) more n (omega arith) (omega arith) passes (λ k from to. before k (omega arith) to)
  ]

  pub first_page-none : (first count : ℕ) → ((k : ℕ) → first ≤ k → k < first + count → test k ≡ false) → first_page test first count ≡ None
  unfolding first_page
  first_page-none first zero all = refl
  first_page-none first (suc more) all =
      step_no (test first) first (first_page test (first + 1) more) (all first (omega arith) (omega arith))
      ∙ first_page-none (first + 1) more (λ k from to. all k (omega arith) (omega arith))

  -- what is known of the first page that passes
  pub record IsFirst (first count n : ℕ) : Type 0 where
    pub low : first ≤ n
    pub high : n < first + count
    pub passes : test n ≡ true
    pub before : (k : ℕ) → first ≤ k → k < n → test k ≡ false

  pub first_page-some : (first count n : ℕ) → first_page test first count ≡ Some n → IsFirst first count n
  unfolding first_page
  first_page-some first zero n e = cc
  first_page-some first (suc more) n e = elim (true_false (test first)) [
    | inl passes ↦
        let same : n ≡ first = some-one n first (sym e ∙ step_yes (test first) first (first_page test (first + 1) more) passes) in
        record {
          low = omega arith;
          high = omega arith;
          passes = ap test same ∙ passes;
          before = λ k from to. absurd (omega arith);
        }
    | inr fails ↦
        let rest = first_page-some (first + 1) more n (sym (step_no (test first) first (first_page test (first + 1) more) fails) ∙ e) in
        record {
          low = let at = rest.low in omega arith;
          high = let at = rest.high in omega arith;
          passes = rest.passes;
          before = λ k from to. elim (cases_eq k first) [
            | inl same ↦ ap test same ∙ fails
            | inr two ↦ rest.before k (omega arith) to
          ];
        }
  ]

  pub first_page-no : (first count : ℕ) → first_page test first count ≡ None → (k : ℕ) → first ≤ k → k < first + count → test k ≡ false
  unfolding first_page
  first_page-no first zero e k from to = absurd (omega arith)
  first_page-no first (suc more) e k from to = elim (true_false (test first)) [
    | inl passes ↦ let is = step_yes (test first) first (first_page test (first + 1) more) passes in absurd (cc)
    | inr fails ↦ elim (cases_eq k first) [
      | inl same ↦ ap test same ∙ fails
      | inr two ↦
          first_page-no (first + 1) more (sym (step_no (test first) first (first_page test (first + 1) more) fails) ∙ e) k (omega arith) (omega arith)
    ]
  ]

  -- none of no pages passes; one more passes or doesn't
  pub count_pages-none : (first count : ℕ) → ((k : ℕ) → first ≤ k → k < first + count → test k ≡ false) → count_pages test first count ≡ 0
  unfolding count_pages
  count_pages-none first zero all = refl
  count_pages-none first (suc more) all =
      let rest = count_pages-none (first + 1) more (λ k from to. all k (omega arith) (omega arith)) in
      rw (all first (omega arith) (omega arith), rest) refl

  pub count_pages-more : (first count more : ℕ) → count_pages test first (count + more) ≡ count_pages test first count + count_pages test (first + count) more
  unfolding count_pages
  count_pages-more first zero more =
      let start : first + 0 ≡ first = omega arith in
      let all : 0 + more ≡ more = omega arith in
      let here : count_pages test first (0 + more) ≡ count_pages test (first + 0) more = (λ i. count_pages test (sym start i) (all i)) in
      omega arith
  count_pages-more first (suc count) more =
      let all : suc count + more ≡ suc (count + more) = omega arith in
      let start : first + 1 + count ≡ first + suc count = omega arith in
      let rest = count_pages-more (first + 1) count more in
      let same : count_pages test (first + 1 + count) more ≡ count_pages test (first + suc count) more = ap (λ n. count_pages test n more) start in
      let sum : count_pages test first (suc count + more) ≡ cond (test first) 1 0 + count_pages test (first + 1) (count + more) = ap (count_pages test first) all in
      omega arith

  -- one page that passes
  pub count_pages-one : (first : ℕ) → test first ≡ true → count_pages test first 1 ≡ 1
  unfolding count_pages
  count_pages-one first passes = rw passes refl

-- mapping a run of pages writes zeros at the addresses of its pages, and nowhere else
pub zeros_of-at : (r : PageRun) (a below : ℕ) → byte_after (zeros_of r) a below ≡ cond (is_in r (a / 4096)) 0 below
zeros_of-at r a below = elim (cases_lt (a / 4096) r.first) [
  | inl low ↦ rw (lt-leb r.first (a / 4096) low, lt-leb (r.first * 4096) a (omega arith)) refl
  | inr from ↦ elim (cases_lt (a / 4096) (r.first + r.count)) [
    | inl to ↦
        rw (
          le-leb r.first (a / 4096) from,
          lt-ltb (a / 4096) (r.first + r.count) to,
          le-leb (r.first * 4096) a (omega arith),
          lt-ltb a (r.first * 4096 + r.count * 4096) (omega arith),
        ) refl
    | inr high ↦
        rw (
          le-leb r.first (a / 4096) from,
          le-ltb (a / 4096) (r.first + r.count) high,
          le-leb (r.first * 4096) a (omega arith),
          le-ltb a (r.first * 4096 + r.count * 4096) (omega arith),
        ) refl
  ]
]
