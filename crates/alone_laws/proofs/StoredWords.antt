-- A word beside a store is what it was, and one that was stored is the stored one.
use Rattle.std.proofs.Common.{◌≡◌, ℕ, zero, suc, ◌+◌, ◌*◌, ◌-◌, ◌<◌, ◌≤◌, ◌^◌, [], ◌∷◌, refl, ap, ◌∙◌, arith}
use Rattle.std.proofs.Common.{Bool, true, false, ◌&&◌, cond, leb, ltb, Option, Some, None, inl, inr, ◌⊎◌}
use Rattle.std.specs.Option.{option_map}
use Rattle.std.proofs.lemmas.Bool.{leb-true, ltb-true, le-leb, lt-ltb, false≢true}
use Rattle.std.proofs.lemmas.Bool.Decides.{nat_tests}
use Rattle.mach_types.specs.Bytes.{byte_of, byte_over, joined, word_at}
use Rattle.mach_types.specs.declared.user_memory.Store.{Store}
use Rattle.rv_inst.specs.Execution.{seen_byte}
use Rattle.store_buffers.proofs.WordsSeen.{word_at-from}
use Rattle.alone_laws.specs.Blocks.{among}
use Rattle.alone_laws.proofs.Sequences.{each_among}
use Rattle.alone_laws.proofs.Steps.{word_same}

-- WORDS AND STORES

pub among_low : (at n a : ℕ) → among at n a ≡ true → (at ≤ a) × (a < at + n)
among_low at n a is = parts (leb at a) (ltb a (at + n)) refl refl is
  where
    parts : (b c : Bool) → leb at a ≡ b → ltb a (at + n) ≡ c → b && c ≡ true → (at ≤ a) × (a < at + n)
    parts true true x y is = (leb-true at a x, ltb-true a (at + n) y)
    parts true false x y is = absurd (false≢true is)
    parts false c x y is = absurd (false≢true is)

-- a word beside a store is what it was
beside_byte : (w : Store) (a b : ℕ) → (w.at + w.size ≤ a) ⊎ (a < w.at) → byte_over w a b ≡ b
beside_byte w a b (inl behind) = grind (arith, nat_tests)
beside_byte w a b (inr before) = grind (arith, nat_tests)

some_is : (o : Option ℕ) (g : ℕ → ℕ) → ((b : ℕ) → g b ≡ b) → option_map g o ≡ o
some_is None g same = refl
some_is (Some b) g same = ap Some (same b)

pub beside_word : (seen : ℕ → Option ℕ) (w : Store) (at n : ℕ) → (w.at + w.size ≤ at) ⊎ (at + n ≤ w.at)
    → word_at (seen_byte (w ∷ []) seen) at n ≡ word_at seen at n
beside_word seen w at n beside =
    word_same (among at n) (seen_byte (w ∷ []) seen) seen
    (λ a is. some_is (seen a) (λ b. byte_over w a b)
    (λ b. beside_byte w a b (place a (among_low at n a is) beside)))
    at n (each_among at n at n (omega arith) (omega arith))
  where
    place : (a : ℕ) → (at ≤ a) × (a < at + n) → (w.at + w.size ≤ at) ⊎ (at + n ≤ w.at) → (w.at + w.size ≤ a)
        ⊎ (a < w.at)
    place a in_word (inl behind) = let low = in_word.0 in inl (omega arith)
    place a in_word (inr before) = let high = in_word.1 in inr (omega arith)

-- a word that was stored is the stored one
stored_byte : (w : Store) (k b : ℕ) → k < w.size → byte_over w (w.at + k) b ≡ byte_of w.value k
stored_byte w k b lt =
    let place : w.at + k - w.at ≡ k = omega arith in
    ap (λ c. cond (c && ltb (w.at + k) (w.at + w.size)) (byte_of w.value (w.at + k - w.at)) b)
    (le-leb w.at (w.at + k) (omega arith))
    ∙ ap (λ c. cond c (byte_of w.value (w.at + k - w.at)) b) (lt-ltb (w.at + k) (w.at + w.size) (omega arith))
    ∙ ap (byte_of w.value) place

pub stored_word : (byte : ℕ → ℕ) (w : Store) → w.value < 256 ^ w.size
    → word_at (λ a. Some (byte_over w a (byte a))) w.at w.size ≡ Some w.value
stored_word byte w fits = word_at-from (λ a. Some (byte_over w a (byte a))) w.at w.size w.value fits
    (λ k lt. ap Some (stored_byte w k (byte (w.at + k)) lt))

-- where each byte is known, so is each word
pub some_word : (g : ℕ → ℕ) (at n : ℕ) → (w : ℕ) × (word_at (λ a. Some (g a)) at n ≡ Some w)
some_word g at zero = (0, refl)
some_word g at (suc n) =
    let rest = some_word g (at + 1) n in
    (g at + 256 * rest.0, ap (joined (Some (g at))) rest.1)
