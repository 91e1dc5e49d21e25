-- The three words of an action: where they can be written, or read, they lie below 2^64.
use Rattle.sys_calls.proofs.Common.{and_right, ◌≡◌, ℕ, ◌+◌, ◌<◌, ◌≤◌, ◌^◌, Bool, true, false, ◌&&◌, is_some, refl, sym, ap, ◌∙◌, each_byte-past, each_byte-split, Map, byte_in, can_write_in, each_byte, pass_action, byte_in-ends, byte_in-readable, and_parts, each_byte-same}
use Rattle.sys_calls.proofs.Spans.{readable_end}

-- the words by a test of a byte
pub three_words : (test : ℕ → Bool) (at : ℕ) → pass_action test at ≡ ((each_byte test at 8 && each_byte test (at + 8) 8) && each_byte test (at + 16) 8)
unfolding pass_action
three_words test at = each_byte-split test at 16 8 ∙ ap (λ b. b && each_byte test (at + 16) 8) (each_byte-split test at 8 8)

-- each of them passes it
pub record PassThree (test : ℕ → Bool) (at : ℕ) : Type 0 where
  pub first : each_byte test at 8 ≡ true
  pub second : each_byte test (at + 8) 8 ≡ true
  pub third : each_byte test (at + 16) 8 ≡ true

pub pass_three : (test : ℕ → Bool) (at : ℕ) → pass_action test at ≡ true → PassThree test at
pass_three test at all =
    let words = and_parts (each_byte test at 8 && each_byte test (at + 8) 8) (each_byte test (at + 16) 8) (sym (three_words test at) ∙ all) in
    let front = and_parts (each_byte test at 8) (each_byte test (at + 8) 8) words.0 in
    record { first = front.0; second = front.1; third = words.1 }

-- none of them can be written where the last one begins at 2^64 or later
pub unwritable_action : (m : Map) (at : ℕ) → 2 ^ 64 ≤ at + 16 → pass_action (can_write_in m) at ≡ false
unwritable_action m at past =
    three_words (can_write_in m) at
    ∙ and_right (each_byte (can_write_in m) at 8 && each_byte (can_write_in m) (at + 8) 8) (each_byte (can_write_in m) (at + 16) 8)
    (each_byte-past (byte_in m) (can_write_in m) (byte_in-readable m) (byte_in-ends m) (at + 16) 7 past)

-- where they can be read the last one ends at 2^64 or before
pub readable_words : (m : Map) (at : ℕ) → each_byte (λ a. is_some (byte_in m a)) at 24 ≡ pass_action (λ a. is_some (byte_in m a)) at
unfolding pass_action
readable_words m at = refl

pub readable_action : (m : Map) (at : ℕ) → at < 2 ^ 64 → pass_action (λ a. is_some (byte_in m a)) at ≡ true → at + 24 ≤ 2 ^ 64
readable_action m at lt all = readable_end m at 24 lt (readable_words m at ∙ all)

-- and the same after writes that change no permission
pub still_writable : (m m' : Map) (at n : ℕ) → ((a : ℕ) → can_write_in m' a ≡ can_write_in m a) → each_byte (can_write_in m) at n ≡ true → each_byte (can_write_in m') at n ≡ true
still_writable m m' at n same all = each_byte-same (can_write_in m) (can_write_in m') same at n ∙ all
