-- Numbers in bytes, and tests of the bytes of an access.
use Rattle.std.proofs.Common.{◌≡◌, ℕ, zero, suc, ◌+◌, ◌/◌, ◌%◌, ◌<◌, ◌≤◌, ◌⊎◌, inl, inr, ◌&&◌, Bool, true, false, List, Option, Some, None, SomeIff, slice_index, refl, ap, ◌∙◌, arith}
use Rattle.std.proofs.lemmas.Bool.{cases_lt}
use Rattle.byte_views.specs.Words.{word_at as number_at}
use Rattle.mach_types.specs.Bytes.{IsAccessSize, joined, word_at, each_byte}

-- a number whose bytes all stand in a list
pub word_of_bytes : (byte : ℕ → Option ℕ) (bytes : List ℕ) (a p n : ℕ) → ((k : ℕ) → k < n → byte (a + k) ≡ Some (slice_index bytes (p + k))) → word_at byte a n ≡ Some (number_at bytes p n)
unfolding number_at
word_of_bytes byte bytes a p zero h = refl
word_of_bytes byte bytes a p (suc n) h =
    let at_first : a ≡ a + 0 = omega arith in
    let in_first : p + 0 ≡ p = omega arith in
    let first : byte a ≡ Some (slice_index bytes p) = ap byte at_first ∙ h 0 (omega arith) ∙ ap (λ j. Some (slice_index bytes j)) in_first in
    let each : (k : ℕ) → k < n → byte (a + 1 + k) ≡ Some (slice_index bytes (suc p + k)) = λ k lt.
    let at_next : a + 1 + k ≡ a + suc k = omega arith in
    let in_next : p + suc k ≡ suc p + k = omega arith in
    ap byte at_next ∙ h (suc k) (omega arith) ∙ ap (λ j. Some (slice_index bytes j)) in_next in
    let rest : word_at byte (a + 1) n ≡ Some (number_at bytes (suc p) n) = word_of_bytes byte bytes (a + 1) (suc p) n each in
    rw (first, rest) refl

joined-none : (o : Option ℕ) → joined o None ≡ None
joined-none None = refl
joined-none (Some low) = refl

-- a number of which a byte is missing
pub word_missing : (byte : ℕ → Option ℕ) (a n k : ℕ) → k < n → byte (a + k) ≡ None → word_at byte a n ≡ None
word_missing byte a zero k lt h = absurd (omega arith)
word_missing byte a (suc n) zero lt h =
    let at_first : a ≡ a + 0 = omega arith in
    let first : byte a ≡ None = ap byte at_first ∙ h in
    rw first refl
word_missing byte a (suc n) (suc k) lt h =
    let at_next : a + 1 + k ≡ a + suc k = omega arith in
    let rest : word_at byte (a + 1) n ≡ None = word_missing byte (a + 1) n k (omega arith) (ap byte at_next ∙ h) in
    rw rest (joined-none (byte a))

-- a test of each byte
pub each_byte-all : (test : ℕ → Bool) (a n : ℕ) → ((k : ℕ) → k < n → test (a + k) ≡ true) → each_byte test a n ≡ true
each_byte-all test a zero h = refl
each_byte-all test a (suc n) h =
    let at_first : a ≡ a + 0 = omega arith in
    let first : test a ≡ true = ap test at_first ∙ h 0 (omega arith) in
    let each : (k : ℕ) → k < n → test (a + 1 + k) ≡ true = λ k lt.
    let at_next : a + 1 + k ≡ a + suc k = omega arith in ap test at_next ∙ h (suc k) (omega arith) in
    rw first (each_byte-all test (a + 1) n each)

and-false : (b : Bool) → (b && false) ≡ false
and-false true = refl
and-false false = refl

pub each_byte-fails : (test : ℕ → Bool) (a n k : ℕ) → k < n → test (a + k) ≡ false → each_byte test a n ≡ false
each_byte-fails test a zero k lt h = absurd (omega arith)
each_byte-fails test a (suc n) zero lt h =
    let at_first : a ≡ a + 0 = omega arith in
    let first : test a ≡ false = ap test at_first ∙ h in
    rw first refl
each_byte-fails test a (suc n) (suc k) lt h =
    let at_next : a + 1 + k ≡ a + suc k = omega arith in
    let rest : each_byte test (a + 1) n ≡ false = each_byte-fails test (a + 1) n k (omega arith) (ap test at_next ∙ h) in
    rw rest (and-false (test a))

pub true_or_not : (b : Bool) → (b ≡ true) ⊎ (b ≡ false)
true_or_not true = inl refl
true_or_not false = inr refl

pub both_differ : (b : Bool) → b ≡ true → b ≡ false → ⊥
both_differ true t f = cc
both_differ false t f = cc

pub each_byte-at : (test : ℕ → Bool) (a n k : ℕ) → each_byte test a n ≡ true → k < n → test (a + k) ≡ true
each_byte-at test a n k all lt = elim (true_or_not (test (a + k))) [
  | inl holds ↦ holds
  | inr fails ↦ absurd (both_differ (each_byte test a n) all (each_byte-fails test a n k lt fails))
]

-- the byte before the page's end, and from it on
pub either_page : (a k : ℕ) → k ≤ 8 → ((a + k) / 4096 ≡ a / 4096) ⊎ ((a + k) / 4096 ≡ a / 4096 + 1)
either_page a k few = elim (cases_lt (a % 4096 + k) 4096) [
  | inl low ↦ inl (omega arith)
  | inr high ↦ inr (omega arith)
]

-- an access has some bytes, and few
pub access_size : (n : ℕ) → IsAccessSize n → (0 < n) × (n ≤ 8)
access_size n (inl e) = (omega arith, omega arith)
access_size n (inr (inl e)) = (omega arith, omega arith)
access_size n (inr (inr (inl e))) = (omega arith, omega arith)
access_size n (inr (inr (inr e))) = (omega arith, omega arith)

-- an answer that is there exactly where it holds
pub some_where : (o : Option ℕ) (P : Type 0) (x : ℕ) → SomeIff o P x → P → o ≡ Some x
some_where None P x s p = absurd (s p)
some_where (Some y) P x s p = ap Some s.1
