-- The first page that passes one of two tests.
use Rattle.std.proofs.Common.{◌≡◌, ℕ, ◌+◌, ◌-◌, ◌<◌, ◌≤◌, Bool, true, false, ◌||◌, Option, Some, None, refl, sym, ap, ◌∙◌, arith, min, inl, inr}
use Rattle.std.proofs.lemmas.Bool.{cases_lt}
use Rattle.mach_types.specs.Kernel.Pages.{first_page}
use Rattle.mach_types.proofs.Laws.{first_page-is, first_page-no, first_page-none, first_page-some}

left_or : (b c : Bool) → b ≡ true → (b || c) ≡ true
left_or true c e = refl
left_or false c e = cc

right_or : (b c : Bool) → c ≡ true → (b || c) ≡ true
right_or true c e = refl
right_or false c e = e

neither : (b c : Bool) → b ≡ false → c ≡ false → (b || c) ≡ false
neither true c e d = cc
neither false c e d = d

-- the first page past some that don't pass
pub first_past : (p : ℕ → Bool) (from to all : ℕ) → from ≤ to → ((k : ℕ) → from ≤ k → k < to → p k ≡ false) → first_page p to (all - to) ≡ first_page p from (all - from)
first_past p from to all far none = go (first_page p to (all - to)) refl
  where
    go : (o : Option ℕ) → o ≡ first_page p to (all - to) → o ≡ first_page p from (all - from)
    go None is = sym (first_page-none p from (all - from) (λ k low high. elim (cases_lt k to) [
      | inl before ↦ none k low before
      | inr past ↦ first_page-no p to (all - to) (sym is) k past (omega arith)
    ]))
    go (Some n) is =
        let found = first_page-some p to (all - to) n (sym is) in
        let far_on = found.low in
        let within = found.high in
        sym (first_page-is p from (all - from) n (omega arith) (omega arith) found.passes (λ k low high. elim (cases_lt k to) [
          | inl before ↦ none k low before
          | inr past ↦ found.before k past high
        ]))

module _ (p q : ℕ → Bool) (first count : ℕ) where
  abbrev either : ℕ → Bool
  either n = p n || q n

  pub first_right : (o : Option ℕ) → None ≡ first_page p first count → o ≡ first_page q first count → o ≡ first_page either first count
  first_right None none is = sym (first_page-none either first count (λ k low high.
      neither (p k) (q k) (first_page-no p first count (sym none) k low high) (first_page-no q first count (sym is) k low high)))
  first_right (Some n) none is =
      let found = first_page-some q first count n (sym is) in
      sym (first_page-is either first count n found.low found.high (right_or (p n) (q n) found.passes) (λ k low high.
      let before : k < first + count = let far = found.high in omega arith in
      neither (p k) (q k) (first_page-no p first count (sym none) k low before) (found.before k low high)))

  pub first_left : (n : ℕ) → Some n ≡ first_page p first count → None ≡ first_page q first count → Some n ≡ first_page either first count
  first_left n is none =
      let found = first_page-some p first count n (sym is) in
      sym (first_page-is either first count n found.low found.high (left_or (p n) (q n) found.passes) (λ k low high.
      let before : k < first + count = let far = found.high in omega arith in
      neither (p k) (q k) (found.before k low high) (first_page-no q first count (sym none) k low before)))

  -- no page is lower than the first one
  pub first_here : (n : ℕ) → Some n ≡ first_page p first count → n ≡ first → Some n ≡ first_page either first count
  first_here n is here =
      let found = first_page-some p first count n (sym is) in
      sym (first_page-is either first count n found.low found.high (left_or (p n) (q n) found.passes) (λ k low high.
      let no : ⊥ = omega arith in
      absurd no))

  pub first_both : (n k m : ℕ) → Some n ≡ first_page p first count → Some k ≡ first_page q first count → m ≡ min n k → Some m ≡ first_page either first count
  first_both n k m is other least =
      let found = first_page-some p first count n (sym is) in
      let second = first_page-some q first count k (sym other) in
      elim (cases_lt n k) [
        | inl lt ↦
            let here : m ≡ n = omega arith in
            ap Some here ∙ sym (first_page-is either first count n found.low found.high (left_or (p n) (q n) found.passes) (λ j low high.
            neither (p j) (q j) (found.before j low high) (second.before j low (omega arith))))
        | inr ge ↦
            let here : m ≡ k = omega arith in
            ap Some here ∙ sym (first_page-is either first count k second.low second.high (right_or (p k) (q k) second.passes) (λ j low high.
            neither (p j) (q j) (found.before j low (omega arith)) (second.before j low high)))
      ]
