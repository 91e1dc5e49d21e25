-- The two words of the limits of a resource: where they can be written they lie below 2^64.
use Rattle.sys_calls.proofs.Common.{and_right, ◌≡◌, ℕ, ◌+◌, ◌≤◌, ◌^◌, Bool, true, false, ◌&&◌, refl, sym, ◌∙◌, each_byte-past, each_byte-split, Map, byte_in, can_write_in, each_byte, byte_in-ends, byte_in-readable, and_parts}
unfoldable use Rattle.sys_calls.specs.Asked.{pass_limits}

-- the words by a test of a byte
pub two_words : (test : ℕ → Bool) (at : ℕ) → pass_limits test at ≡ (each_byte test at 8 && each_byte test (at + 8) 8)
unfolding pass_limits
two_words test at = each_byte-split test at 8 8

-- each of them passes it
pub record PassBoth (test : ℕ → Bool) (at : ℕ) : Type 0 where
  pub first : each_byte test at 8 ≡ true
  pub second : each_byte test (at + 8) 8 ≡ true

pub pass_both : (test : ℕ → Bool) (at : ℕ) → pass_limits test at ≡ true → PassBoth test at
pass_both test at all =
    let words = and_parts (each_byte test at 8) (each_byte test (at + 8) 8) (sym (two_words test at) ∙ all) in
    record { first = words.0; second = words.1 }

-- none of them can be written where the second begins at 2^64 or later
pub unwritable_limits : (m : Map) (at : ℕ) → 2 ^ 64 ≤ at + 8 → pass_limits (can_write_in m) at ≡ false
unwritable_limits m at past =
    two_words (can_write_in m) at
    ∙ and_right (each_byte (can_write_in m) at 8) (each_byte (can_write_in m) (at + 8) 8)
    (each_byte-past (byte_in m) (can_write_in m) (byte_in-readable m) (byte_in-ends m) (at + 8) 7 past)

-- their bytes, and those of the struct
pub limit_bytes : (test : ℕ → Bool) (at : ℕ) → each_byte test at 16 ≡ pass_limits test at
unfolding pass_limits
limit_bytes test at = refl
