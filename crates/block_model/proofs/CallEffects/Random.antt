-- getrandom(2).
use Rattle.block_model.proofs.Common.{◌≡◌, ℕ, zero, suc, ◌+◌, ◌*◌, ◌/◌, ◌%◌, ◌^◌, ◌<◌, ◌≤◌, arith, refl, Bool, true, false, cond, ltb, ltb-false, Here, are_writable, argument, each_byte, is_writable, not-false}
use Rattle.block_model.specs.Calls.Random.{bytes_drawn, bytes_given, getrandom, getrandom_errors, next_state, next_word, random_written, state_after, words_drawn, words_for}
use Rattle.block_model.proofs.CallEffects.{Answers, CallDeed, Draws, by_errors, small_no_error}
use Rattle.block_model.proofs.WritableBytes.{AllWritable, both_writable, part_writable}

-- as many bytes are given
few_given : (len : ℕ) → bytes_given len ≤ 256
few_given len = go (ltb 256 len) (ltb-false 256 len)
  where
    go : (b : Bool) → (b ≡ false → len ≤ 256) → cond b 256 len ≤ 256
    go true low = omega arith
    go false low = let few = low refl in omega arith

module _ (can_write : ℕ → Bool) (at n : ℕ) (may : each_byte can_write at n ≡ true) where
  words_can : (k from state : ℕ) → at ≤ from → from + 8 * k ≤ at + n → AllWritable can_write (words_drawn k from state)
  words_can zero from state low high = tt
  words_can (suc k) from state low high = (
    part_writable can_write at n from 8 (next_word state) may low (omega arith) (omega arith),
    words_can k (from + 8) (next_state state) (omega arith) (omega arith),
  )

  bytes_can : (k from word : ℕ) → at ≤ from → from + k ≤ at + n → AllWritable can_write (bytes_drawn k from word)
  bytes_can zero from word low high = tt
  bytes_can (suc k) from word low high = (
    part_writable can_write at n from 1 (word % 256) may low (omega arith) (omega arith),
    bytes_can k (from + 1) (word / 256) (omega arith) (omega arith),
  )

  random_can : (state : ℕ) → AllWritable can_write (random_written n at state)
  random_can state =
      both_writable can_write (words_drawn (n / 8) at state) (bytes_drawn (n % 8) (at + 8 * (n / 8)) (next_word (state_after (n / 8) state)))
      (words_can (n / 8) at state (omega arith) (omega arith))
      (bytes_can (n % 8) (at + 8 * (n / 8)) (next_word (state_after (n / 8) state)) (omega arith) (omega arith))

pub deed_getrandom : (here : Here) (t number : ℕ) → CallDeed here t number (getrandom here t)
deed_getrandom here t number =
    let p = argument here t 0 in
    let len = bytes_given (argument here t 1) in
    let few = few_given (argument here t 1) in
    by_errors (getrandom_errors here t) _ (λ none.
    Answers len (random_written len p here.kernel.random) _ (λ _. small_no_error len (omega arith))
    (random_can (is_writable here) p len (not-false (are_writable here p len) none.1.0) here.kernel.random)
    (Draws (state_after (words_for len) here.kernel.random)))
