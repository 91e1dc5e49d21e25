-- Words beside stores that come one after another, and words that they stored.
use Rattle.std.proofs.Common.{◌≡◌, ◌≢◌, ℕ, zero, suc, ◌+◌, ◌<◌, ◌≤◌, ◌^◌, List, [], ◌∷◌, ◌++◌, sym, ap, ◌∙◌, subst, arith}
use Rattle.std.proofs.Common.{Option, Some, inl, inr, ◌⊎◌}
use Rattle.std.proofs.lemmas.Bool.{cases_eq}
use Rattle.mach_types.specs.Bytes.{overlay, word_at}
use Rattle.mach_types.specs.declared.user_memory.Store.{Store}
use Rattle.rv_inst.specs.Execution.{seen_byte}
use Rattle.alone.proofs.Laws.{word_unchanged}
use Rattle.alone_laws.proofs.Steps.{overlay_append}
use Rattle.alone_laws.proofs.StoredWords.{beside_word, stored_word}
use Rattle.percpu_lib.specs.RingForms.{first_stores}

-- a store reaches none of so many bytes
abbrev pub IsBeside : Store → ℕ → ℕ → Type 0
IsBeside w at n = (w.at + w.size ≤ at) ⊎ (at + n ≤ w.at)

module _ (bytes : ℕ → ℕ) where
  abbrev seen : ℕ → Option ℕ
  seen a = Some (bytes a)

  -- the last store over the others
  over : (es : List Store) (w : Store) (at n : ℕ)
      → word_at (seen_byte (es ++ w ∷ []) seen) at n ≡ word_at (seen_byte (w ∷ []) (seen_byte es seen)) at n
  over es w at n =
      ap (λ (g : ℕ → Option ℕ). word_at g at n) (λ i a. Some (overlay_append es (w ∷ []) a (bytes a) i))

  pub beside_last : (es : List Store) (w : Store) (at n : ℕ) → IsBeside w at n
      → word_at (seen_byte (es ++ w ∷ []) seen) at n ≡ word_at (seen_byte es seen) at n
  beside_last es w at n beside = over es w at n ∙ beside_word (seen_byte es seen) w at n beside

  pub stored_last : (es : List Store) (w : Store) → w.value < 256 ^ w.size
      → word_at (seen_byte (es ++ w ∷ []) seen) w.at w.size ≡ Some w.value
  stored_last es w fits = over es w w.at w.size ∙ stored_word (λ a. overlay es a (bytes a)) w fits

  -- the first of many
  module _ (store : ℕ → Store) where
    pub beside_first : (k at n : ℕ) → ((j : ℕ) → j < k → IsBeside (store j) at n)
        → word_at (seen_byte (first_stores store k) seen) at n ≡ word_at seen at n
    beside_first zero at n beside = word_unchanged seen at n
    beside_first (suc k) at n beside =
        beside_last (first_stores store k) (store k) at n (beside k (omega arith))
        ∙ beside_first k at n (λ j lt. beside j (omega arith))

    pub stored_first : (k j : ℕ) → j < k → ((i : ℕ) → (store i).value < 256 ^ (store i).size)
        → ((i : ℕ) → i < k → i ≢ j → IsBeside (store i) (store j).at (store j).size)
        → word_at (seen_byte (first_stores store k) seen) (store j).at (store j).size ≡ Some (store j).value
    stored_first zero j lt fits apart = absurd (omega arith)
    stored_first (suc k) j lt fits apart =
        by_last (cases_eq j k)
        (λ less. stored_first k j less fits (λ i fewer other. apart i (omega arith) other))
      where
        by_last : (j ≡ k) ⊎ (j ≢ k)
            → (j < k → word_at (seen_byte (first_stores store k) seen) (store j).at (store j).size
            ≡ Some (store j).value)
            → word_at (seen_byte (first_stores store (suc k)) seen) (store j).at (store j).size ≡ Some (store j).value
        by_last (inl is) earlier =
            subst (λ n. word_at (seen_byte (first_stores store (suc k)) seen) (store n).at (store n).size
            ≡ Some (store n).value) (sym is) (stored_last (first_stores store k) (store k) (fits k))
        by_last (inr other) earlier =
            beside_last (first_stores store k) (store k) (store j).at (store j).size
            (apart k (omega arith) (λ same. other (sym same))) ∙ earlier (omega arith)
