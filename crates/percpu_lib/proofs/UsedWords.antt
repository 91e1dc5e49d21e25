-- The words that a block uses, by its bytes: those of the area, a word, and a second word or none.
use Rattle.std.proofs.Common.{◌≡◌, ℕ, Bool, true, false, not, ◌&&◌, ◌||◌, ap, ◌∙◌, arith}
use Rattle.mach_types.specs.Bytes.{each_byte}
use Rattle.alone_laws.specs.Blocks.{among}
use Rattle.alone_laws.proofs.Sequences.{each_among}
use Rattle.alone_laws.proofs.Steps.{each_implies}
use Rattle.percpu_lib.proofs.BlockWords.{or_true}

each_of : (bytes : ℕ → Bool) (from : ℕ) → ((a : ℕ) → among from 8 a ≡ true → bytes a ≡ true)
    → each_byte bytes from 8 ≡ true
each_of bytes from has =
    each_implies (among from 8) bytes has from 8 (each_among from 8 from 8 (omega arith) (omega arith))

pub area_used : (area : ℕ) (others : ℕ → Bool) (a : ℕ) → among area 32 a ≡ true
    → among area 32 a || others a ≡ true
area_used area others a is = ap (λ b. b || others a) is

-- one word alone
pub word_used : (area from : ℕ) → each_byte (λ a. among area 32 a || among from 8 a) from 8 ≡ true
word_used area from =
    each_of (λ a. among area 32 a || among from 8 a) from
    (λ a is. ap (λ b. among area 32 a || b) is ∙ or_true (among area 32 a))

-- the first word
pub first_used : (area from : ℕ) (others : ℕ → Bool)
    → each_byte (λ a. among area 32 a || (among from 8 a || others a)) from 8 ≡ true
first_used area from others =
    each_of (λ a. among area 32 a || (among from 8 a || others a)) from
    (λ a is. ap (λ b. among area 32 a || (b || others a)) is ∙ or_true (among area 32 a))

-- the second one, and where it is used at all
pub second_used : (area first from : ℕ)
    → each_byte (λ a. among area 32 a || (among first 8 a || among from 8 a)) from 8 ≡ true
second_used area first from =
    each_of (λ a. among area 32 a || (among first 8 a || among from 8 a)) from
    (λ a is. ap (λ b. among area 32 a || (among first 8 a || b)) is
    ∙ ap (λ b. among area 32 a || b) (or_true (among first 8 a)) ∙ or_true (among area 32 a))

second_used_where : (area first from : ℕ) (unused : Bool) → unused ≡ false
    → each_byte (λ a. among area 32 a || (among first 8 a || (not unused && among from 8 a))) from 8 ≡ true
second_used_where area first from unused is_used =
    each_of (λ a. among area 32 a || (among first 8 a || (not unused && among from 8 a))) from
    (λ a is. ap (λ c. among area 32 a || (among first 8 a || (not c && among from 8 a))) is_used
    ∙ ap (λ b. among area 32 a || (among first 8 a || b)) is
    ∙ ap (λ b. among area 32 a || b) (or_true (among first 8 a)) ∙ or_true (among area 32 a))

-- the first word, and a second one unless it is unused
pub record AreUsed (area first second : ℕ) (unused : Bool) : Type 0 where
  pub area_bytes : (a : ℕ) → among area 32 a ≡ true
      → among area 32 a || (among first 8 a || (not unused && among second 8 a)) ≡ true
  pub in_first : each_byte (λ a. among area 32 a || (among first 8 a || (not unused && among second 8 a))) first 8
      ≡ true
  pub in_second : unused ≡ false
      → each_byte (λ a. among area 32 a || (among first 8 a || (not unused && among second 8 a))) second 8 ≡ true

pub words_used : (area first second : ℕ) (unused : Bool) → AreUsed area first second unused
words_used area first second unused = record {
  area_bytes = area_used area (λ a. among first 8 a || (not unused && among second 8 a));
  in_first = first_used area first (λ a. not unused && among second 8 a);
  in_second = second_used_where area first second unused;
}
