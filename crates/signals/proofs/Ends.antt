-- A run of bytes that would pass the last address can be neither written nor read.
use Rattle.std.proofs.Common.{◌≡◌, ◌≢◌, ℕ, eqb, ◌+◌, ◌*◌, ◌<◌, ◌≤◌, ◌⊎◌, inl, inr, Bool, true, false, cond, ◌&&◌, Option, Some, None, zero, suc, refl, ap, ◌∙◌, subst, arith}
use Rattle.std.specs.Option.{IsSome, option_map}
use Rattle.std.proofs.lemmas.Bool.{false≢true}
use Rattle.std.proofs.lemmas.Bool.Decides.{nat_tests}
use Rattle.std.proofs.Math.Nat.{eq-or-lt_of_le}
use Rattle.mach_types.specs.Bytes.{each_byte, joined, word_at}
use Rattle.mach_types.specs.Kernel.SignalFrames.{can_write_frame, frame_at, frame_read, frame_size, returns_with_info, stack_pointer, wants_info, without_info, words_at, word_before}
use Rattle.mach_types.specs.declared.signal_words.Action.{Action}
use Rattle.mach_types.specs.declared.threads.Saved.{Saved}
use Rattle.signals.specs.Writing.{can_write_words, word_count}

-- a frame has 34 words, or with SA_SIGINFO 136
pub bytes_of_words : (a : Action) → frame_size a ≡ 8 * word_count a
bytes_of_words a = elim (wants_info a) as (λ b. cond b 1088 272 ≡ 8 * cond b 136 34) [ true ↦ refl | false ↦ refl ]

pub frame_is_words : (test : ℕ → Bool) (a : Action) (saved : Saved) → can_write_frame test a saved ≡ can_write_words test (frame_at a (stack_pointer saved)) (word_count a)
unfolding can_write_frame can_write_words
frame_is_words test a saved = ap (each_byte test (frame_at a (stack_pointer saved))) (bytes_of_words a)

pub frame_read_is_words : (byte : ℕ → Option ℕ) (saved : Saved) → returns_with_info saved ≡ false → frame_read byte saved ≡ words_at byte (stack_pointer saved) 34
unfolding frame_read
frame_read_is_words byte saved plain =
    ap (λ b. cond b (option_map without_info (words_at byte (stack_pointer saved) 136)) (words_at byte (stack_pointer saved) 34)) plain

pub frame_read_is_info : (byte : ℕ → Option ℕ) (saved : Saved) → returns_with_info saved ≡ true
    → frame_read byte saved ≡ option_map without_info (words_at byte (stack_pointer saved) 136)
unfolding frame_read
frame_read_is_info byte saved informed =
    ap (λ b. cond b (option_map without_info (words_at byte (stack_pointer saved) 136)) (words_at byte (stack_pointer saved) 34)) informed

-- a test of two numbers that differ
pub unequal : (n m : ℕ) → n ≢ m → eqb n m ≡ false
unequal n m other = grind (arith, nat_tests)

-- what can't be read can't be written
pub not_writable : (b : Bool) (o : Option ℕ) → (b ≡ true → IsSome o) → o ≡ None → b ≡ false
not_writable false o h e = refl
not_writable true o h e =
    let P : Option ℕ → Type 0 = λ p. IsSome p in
    absurd (false≢true (subst P e (h refl)))

and_false : (a b : Bool) → b ≡ false → (a && b) ≡ false
and_false true b e = e
and_false false b e = refl

-- a run that goes past an address at which nothing passes
pub run_passes_end : (test : ℕ → Bool) (end n at : ℕ) → ((a : ℕ) → end ≤ a → test a ≡ false) → at ≤ end → end < at + n → each_byte test at n ≡ false
run_passes_end test end zero at none before past = absurd (omega arith)
run_passes_end test end (suc n) at none before past = go (eq-or-lt_of_le before) (run_passes_end test end n (at + 1) none)
  where
    go : (at ≡ end) ⊎ (at < end) → (at + 1 ≤ end → end < at + 1 + n → each_byte test (at + 1) n ≡ false) → (test at && each_byte test (at + 1) n) ≡ false
    go (inl here) rest = ap (λ b. b && each_byte test (at + 1) n) (none at (omega arith))
    go (inr later) rest = and_false (test at) _ (rest (omega arith) (omega arith))

pub words_pass_end : (test : ℕ → Bool) (end at count : ℕ) → ((a : ℕ) → end ≤ a → test a ≡ false) → at ≤ end → end < at + 8 * count
    → can_write_words test at count ≡ false
unfolding can_write_words
words_pass_end test end at count none before past = run_passes_end test end (8 * count) at none before past

joined_none : (o : Option ℕ) → joined o None ≡ None
joined_none (Some low) = refl
joined_none None = refl

word_passes_end : (byte : ℕ → Option ℕ) (end n at : ℕ) → ((a : ℕ) → end ≤ a → byte a ≡ None) → at ≤ end → end < at + n → word_at byte at n ≡ None
word_passes_end byte end zero at none before past = absurd (omega arith)
word_passes_end byte end (suc n) at none before past = go (eq-or-lt_of_le before) (word_passes_end byte end n (at + 1) none)
  where
    go : (at ≡ end) ⊎ (at < end) → (at + 1 ≤ end → end < at + 1 + n → word_at byte (at + 1) n ≡ None) → joined (byte at) (word_at byte (at + 1) n) ≡ None
    go (inl here) rest = ap (λ o. joined o (word_at byte (at + 1) n)) (none at (omega arith))
    go (inr later) rest = ap (joined (byte at)) (rest (omega arith) (omega arith)) ∙ joined_none (byte at)

no_words_after : (o : Option ℕ) → word_before o None ≡ None
no_words_after (Some w) = refl
no_words_after None = refl

-- words that pass an end past which no byte can be read
pub words_read_past_end : (byte : ℕ → Option ℕ) (end n at : ℕ) → ((a : ℕ) → end ≤ a → byte a ≡ None) → at ≤ end → end < at + 8 * n → words_at byte at n ≡ None
words_read_past_end byte end zero at none before past = absurd (omega arith)
words_read_past_end byte end (suc n) at none before past = go (below end (at + 8)) (words_read_past_end byte end n (at + 8) none)
  where
    below : (a b : ℕ) → (a < b) ⊎ (b ≤ a)
    below a b = grind arith

    go : (end < at + 8) ⊎ (at + 8 ≤ end) → (at + 8 ≤ end → end < at + 8 + 8 * n → words_at byte (at + 8) n ≡ None)
        → word_before (word_at byte at 8) (words_at byte (at + 8) n) ≡ None
    go (inl here) rest = ap (λ o. word_before o (words_at byte (at + 8) n)) (word_passes_end byte end 8 at none before here)
    go (inr later) rest = ap (word_before (word_at byte at 8)) (rest later (omega arith)) ∙ no_words_after (word_at byte at 8)
