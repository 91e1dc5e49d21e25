-- The words of ring blocks: where each stands, and that each leads on in its block.
use Rattle.std.proofs.Common.{◌≡◌, ℕ, zero, suc, ◌+◌, ◌*◌, ◌<◌, ◌≤◌, List, [], ◌∷◌, ◌++◌, refl, sym, ap, ◌∙◌}
use Rattle.std.proofs.Common.{arith, subst, Option, Some, None, inl, inr, ◌⊎◌, length, slice_get, append_assoc, length-append}
use Rattle.std.proofs.lemmas.Bool.{cases_lt}
use Rattle.rv_inst.specs.declared.instruction.Inst.{Inst}
use Rattle.percpu_lib.specs.Forms.{Form}
use Rattle.percpu_lib.specs.RingForms.{repeated}
use Rattle.percpu_lib.proofs.BlockCode.{AreWords}

-- WHERE THEY STAND

pub word_behind : (xs ys : List (Option Inst)) (n : ℕ) → slice_get (xs ++ ys) (length xs + n) ≡ slice_get ys n
word_behind [] ys n = ap (slice_get ys) (omega arith)
word_behind (x ∷ xs) ys n =
    let next : length (x ∷ xs) + n ≡ suc (length xs + n) = omega arith in
    ap (slice_get (x ∷ (xs ++ ys))) next ∙ word_behind xs ys n

pub word_before : (xs ys : List (Option Inst)) (n : ℕ) → n < length xs → slice_get (xs ++ ys) n ≡ slice_get xs n
word_before [] ys n lt = absurd (omega arith)
word_before (x ∷ xs) ys zero lt = refl
word_before (x ∷ xs) ys (suc n) lt = word_before xs ys n (omega arith)

module _ (words : ℕ → List (Option Inst)) (six : (k : ℕ) → length (words k) ≡ 6) where
  pub repeated_length : (n : ℕ) → length (repeated words n) ≡ 6 * n
  repeated_length zero = refl
  repeated_length (suc n) =
      let fewer = repeated_length n in
      let last = six n in
      length-append (repeated words n) (words n) ∙ omega (arith, fewer, last)

  word_in : (n k j : ℕ) (rest : List (Option Inst)) → k < n → j < 6
      → slice_get (repeated words n ++ rest) (6 * k + j) ≡ slice_get (words k) j
  word_in zero k j rest lt few = absurd (omega arith)
  word_in (suc n) k j rest lt few =
      ap (λ (xs : List (Option Inst)). slice_get xs (6 * k + j)) (append_assoc (repeated words n) (words n) rest)
      ∙ by_last (cases_lt k n) (λ less. word_in n k j (words n ++ rest) less few)
    where
      by_last : (k < n) ⊎ (n ≤ k)
          → (k < n → slice_get (repeated words n ++ (words n ++ rest)) (6 * k + j) ≡ slice_get (words k) j)
          → slice_get (repeated words n ++ (words n ++ rest)) (6 * k + j) ≡ slice_get (words k) j
      by_last (inl less) earlier = earlier less
      by_last (inr past) earlier =
          let same : k ≡ n = omega arith in
          let long = repeated_length n in
          let last = six n in
          let here : 6 * k + j ≡ length (repeated words n) + j = omega (arith, same, long) in
          ap (slice_get (repeated words n ++ (words n ++ rest))) here
          ∙ word_behind (repeated words n) (words n ++ rest) j
          ∙ word_before (words n) rest j (omega (arith, last)) ∙ ap (λ m. slice_get (words m) j) (sym same)

  -- 17 words before them, and others behind
  module _ (front rest : List (Option Inst)) (seventeen : length front ≡ 17) (count : ℕ) where
    pub in_middle : (k j : ℕ) → k < count → j < 6
        → slice_get (front ++ (repeated words count ++ rest)) (17 + 6 * k + j) ≡ slice_get (words k) j
    in_middle k j lt few =
        let here : 17 + 6 * k + j ≡ length front + (6 * k + j) = omega (arith, seventeen) in
        ap (slice_get (front ++ (repeated words count ++ rest))) here
        ∙ word_behind front (repeated words count ++ rest) (6 * k + j) ∙ word_in count k j rest lt few

    pub at_end : (j : ℕ) → slice_get (front ++ (repeated words count ++ rest)) (17 + 6 * count + j) ≡ slice_get rest j
    at_end j =
        let long = repeated_length count in
        let here : 17 + 6 * count + j ≡ length front + (length (repeated words count) + j) =
        omega (arith, seventeen, long) in
        ap (slice_get (front ++ (repeated words count ++ rest))) here
        ∙ word_behind front (repeated words count ++ rest) (length (repeated words count) + j)
        ∙ word_behind (repeated words count) rest j

    pub in_all : length (front ++ (repeated words count ++ rest)) ≡ 17 + 6 * count + length rest
    in_all =
        let long = repeated_length count in
        let two = length-append (repeated words count) rest in
        length-append front (repeated words count ++ rest) ∙ omega (arith, seventeen, long, two)

-- THAT THEY LEAD ON

pub words_append : (form : Form) (k : ℕ) (xs ys : List (Option Inst)) → AreWords form k xs
    → AreWords form (k + length xs) ys → AreWords form k (xs ++ ys)
words_append form k [] ys first rest = subst (λ n. AreWords form n ys) (omega arith) rest
words_append form k (None ∷ xs) ys first rest =
    (first.0, words_append form (k + 1) xs ys first.1 (subst (λ n. AreWords form n ys) (omega arith) rest))
words_append form k (Some i ∷ xs) ys first rest =
    (first.0, words_append form (k + 1) xs ys first.1 (subst (λ n. AreWords form n ys) (omega arith) rest))

pub words_repeated : (form : Form) (words : ℕ → List (Option Inst)) → ((k : ℕ) → length (words k) ≡ 6) → (m n : ℕ)
    → ((k : ℕ) → k < n → AreWords form (m + 6 * k) (words k)) → AreWords form m (repeated words n)
words_repeated form words six m zero are = tt
words_repeated form words six m (suc n) are =
    let long = repeated_length words six n in
    words_append form m (repeated words n) (words n)
    (words_repeated form words six m n (λ k lt. are k (omega arith)))
    (subst (λ j. AreWords form j (words n)) (omega (arith, long)) (are n (omega arith)))
