-- Words that are read: whether each of their bytes can be, the number that they are, and where no word is.
use Rattle.std.proofs.Common.{◌≡◌, ℕ, zero, suc, ◌+◌, ◌*◌, ◌^◌, ◌<◌, ◌≤◌, Bool, true, false, ◌&&◌, cond, Option, Some, None, is_some, IsSome, unwrap_or, refl, sym, ap, ◌∙◌, add-zero, zero-add, arith}
use Rattle.std.proofs.Math.Nat.{pow-suc}
use Rattle.mach_types.specs.Bytes.{each_byte, joined, word_at}
use Rattle.mach_types.specs.Kernel.Areas.{are_readable, number_at}

-- a test of the bytes of an access, part by part
and_assoc : (a b c : Bool) → (a && b) && c ≡ a && (b && c)
and_assoc true b c = refl
and_assoc false b c = refl

pub each_byte-split : (test : ℕ → Bool) (at m n : ℕ) → each_byte test at (m + n) ≡ each_byte test at m && each_byte test (at + m) n
each_byte-split test at zero n = ap (each_byte test at) (zero-add n) ∙ ap (λ a. each_byte test a n) (sym (add-zero at))
each_byte-split test at (suc m) n =
    let longer : suc m + n ≡ suc (m + n) = omega arith in
    let place : at + 1 + m ≡ at + suc m = omega arith in
    ap (each_byte test at) longer ∙ ap (λ b. test at && b) (each_byte-split test (at + 1) m n)
    ∙ sym (and_assoc (test at) (each_byte test (at + 1) m) (each_byte test (at + 1 + m) n))
    ∙ ap (λ a. (test at && each_byte test (at + 1) m) && each_byte test a n) place

pub each_byte-same : (test test' : ℕ → Bool) → ((a : ℕ) → test' a ≡ test a) → (at n : ℕ) → each_byte test' at n ≡ each_byte test at n
each_byte-same test test' same at n = ap (λ (t : ℕ → Bool). each_byte t at n) (λ i a. same a i)

pub are_readable-split : (byte : ℕ → Option ℕ) (at m n : ℕ) → are_readable byte at (m + n) ≡ are_readable byte at m && are_readable byte (at + m) n
unfolding are_readable
are_readable-split byte at m n = each_byte-split (λ a. is_some (byte a)) at m n

-- a word is read where each of its bytes can be, and is then their number
is_some-joined : (o p : Option ℕ) → is_some (joined o p) ≡ is_some o && is_some p
is_some-joined (Some b) (Some h) = refl
is_some-joined (Some b) None = refl
is_some-joined None p = refl

pub is_some-word_at : (byte : ℕ → Option ℕ) (at n : ℕ) → is_some (word_at byte at n) ≡ are_readable byte at n
unfolding are_readable
is_some-word_at byte at zero = refl
is_some-word_at byte at (suc n) =
    is_some-joined (byte at) (word_at byte (at + 1) n) ∙ ap (λ b. is_some (byte at) && b) (is_some-word_at byte (at + 1) n)

by_value : (o : Option ℕ) → o ≡ cond (is_some o) (Some (unwrap_or o 0)) None
by_value None = refl
by_value (Some n) = refl

pub word_at-read : (byte : ℕ → Option ℕ) (at n : ℕ) → word_at byte at n ≡ cond (are_readable byte at n) (Some (number_at byte at n)) None
unfolding number_at
word_at-read byte at n = by_value (word_at byte at n) ∙ ap (λ b. cond b (Some (unwrap_or (word_at byte at n) 0)) None) (is_some-word_at byte at n)

-- the number of so many bytes fits in them
joined_below : (o p : Option ℕ) (n w : ℕ) → ((b : ℕ) → o ≡ Some b → b < 256) → ((h : ℕ) → p ≡ Some h → h < 256 ^ n) → joined o p ≡ Some w → w < 256 ^ suc n
joined_below (Some b) (Some h) n w low high e =
    let first = low b refl in
    let rest = high h refl in
    let power = pow-suc 256 n in
    let whole : b + 256 * h ≡ w = cc in
    omega arith
joined_below (Some b) None n w low high e = cc
joined_below None p n w low high e = cc

pub word_at-fits : (byte : ℕ → Option ℕ) → ((a b : ℕ) → byte a ≡ Some b → b < 256) → (at n w : ℕ) → word_at byte at n ≡ Some w → w < 256 ^ n
word_at-fits byte small at zero w e =
    let none : 0 ≡ w = cc in
    omega arith
word_at-fits byte small at (suc n) w e = joined_below (byte at) (word_at byte (at + 1) n) n w (small at) (λ h is. word_at-fits byte small (at + 1) n h is) e

-- no word begins where no byte is, and none can be written there
pub word_at-past : (byte : ℕ → Option ℕ) → ((a : ℕ) → 2 ^ 64 ≤ a → byte a ≡ None) → (at n : ℕ) → 2 ^ 64 ≤ at → word_at byte at (suc n) ≡ None
word_at-past byte ends at n past = ap (λ o. joined o (word_at byte (at + 1) n)) (ends at past)

unwritable : (b : Bool) (o : Option ℕ) → (b ≡ true → IsSome o) → o ≡ None → b ≡ false
unwritable false o readable none = refl
unwritable true o readable none = absurd (grind (arith, readable refl))

pub unwritable_past : (byte : ℕ → Option ℕ) (can_write : ℕ → Bool) → ((a : ℕ) → can_write a ≡ true → IsSome (byte a)) → ((a : ℕ) → 2 ^ 64 ≤ a → byte a ≡ None)
    → (at : ℕ) → 2 ^ 64 ≤ at → can_write at ≡ false
unwritable_past byte can_write readable ends at past = unwritable (can_write at) (byte at) (readable at) (ends at past)

pub each_byte-past : (byte : ℕ → Option ℕ) (can_write : ℕ → Bool) → ((a : ℕ) → can_write a ≡ true → IsSome (byte a)) → ((a : ℕ) → 2 ^ 64 ≤ a → byte a ≡ None)
    → (at n : ℕ) → 2 ^ 64 ≤ at → each_byte can_write at (suc n) ≡ false
each_byte-past byte can_write readable ends at n past = ap (λ b. b && each_byte can_write (at + 1) n) (unwritable_past byte can_write readable ends at past)
