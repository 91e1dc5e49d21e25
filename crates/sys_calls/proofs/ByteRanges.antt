-- Runs of bytes: those that can be written lie below 2^64, and so does each part of them; and zeros that are written one by one.
use Rattle.sys_calls.proofs.Common.{◌≡◌, ℕ, suc, ◌+◌, ◌-◌, ◌<◌, ◌≤◌, ◌^◌, Bool, true, false, ◌&&◌, cond, List, [], ◌∷◌, Option, option_map, refl, sym, ap, ◌∙◌, arith, inl, inr, and_parts, and_right, cases_lt, leb, le-leb, le-ltb, lt-leb, lt-ltb, ◌⊎◌, each_byte, each_byte-past, each_byte-split, written, Map, IsEntered, Write, byte_in, can_write_in, held_in, byte_in-ends, byte_in-readable}
unfoldable use Rattle.sys_calls.specs.Asked.{pass_bytes}
use Rattle.sys_calls.specs.Asked.{zero_stored}
use Rattle.mach_types.specs.Bytes.{byte_of}
use Rattle.block_model.specs.Calls.Answers.{zeros_written}
use Rattle.sys_calls.proofs.AreaWords.{writable_below}
use Rattle.sys_calls.proofs.KernelWrites.{entered_twice}

pub bytes_pass : (n : ℕ) (test : ℕ → Bool) (at : ℕ) → each_byte test at n ≡ pass_bytes n test at
unfolding pass_bytes
bytes_pass n test at = refl

-- a part of a run
pub part_passes : (n : ℕ) (test : ℕ → Bool) (at k m : ℕ) → k + m ≤ n → pass_bytes n test at ≡ true → each_byte test (at + k) m ≡ true
part_passes n test at k m fits all =
    let whole : n ≡ k + (m + (n - (k + m))) = omega arith in
    let split = each_byte-split test at k (m + (n - (k + m))) in
    let later = (and_parts (each_byte test at k) (each_byte test (at + k) (m + (n - (k + m)))) (sym split ∙ sym (ap (each_byte test at) whole) ∙ bytes_pass n test at ∙ all)).1 in
    (and_parts (each_byte test (at + k) m) (each_byte test (at + k + m) (n - (k + m))) (sym (each_byte-split test (at + k) m (n - (k + m))) ∙ later)).0

-- it ends at 2^64 or before
pub run_end : (m : Map) (n at : ℕ) → pass_bytes (suc n) (can_write_in m) at ≡ true → at + suc n ≤ 2 ^ 64
run_end m n at all =
    let last = part_passes (suc n) (can_write_in m) at n 1 (omega arith) all in
    let below = writable_below m (at + n) 0 last in
    omega (arith, below)

-- one whose last byte would stand past the last address can't be written
pub run_past : (m : Map) (at more : ℕ) → 2 ^ 64 ≤ at + more → each_byte (can_write_in m) at (more + 1) ≡ false
run_past m at more past =
    each_byte-split (can_write_in m) at more 1
    ∙ and_right (each_byte (can_write_in m) at more) (each_byte (can_write_in m) (at + more) 1)
    (each_byte-past (byte_in m) (can_write_in m) (byte_in-readable m) (byte_in-ends m) (at + more) 0 past)

-- BYTE BY BYTE

one : (b : Bool) → (b && true) ≡ b
one true = refl
one false = refl

-- the next byte of a run, and those behind it; and none behind the last
pub next_byte : (test : ℕ → Bool) (at n k : ℕ) (b : Bool) → k < n → each_byte test (at + k) 1 ≡ b
    → each_byte test (at + k) (n - k) ≡ (b && each_byte test (at + (k + 1)) (n - (k + 1)))
next_byte test at n k b lt is =
    let more : n - k ≡ suc (n - (k + 1)) = omega arith in
    let place : at + k + 1 ≡ at + (k + 1) = omega arith in
    ap (each_byte test (at + k)) more ∙ ap (λ a. test (at + k) && each_byte test a (n - (k + 1))) place
    ∙ ap (λ x. x && each_byte test (at + (k + 1)) (n - (k + 1))) (sym (one (test (at + k))) ∙ is)

pub no_byte : (test : ℕ → Bool) (at n k : ℕ) → n ≤ k → each_byte test (at + k) (n - k) ≡ true
no_byte test at n k le = let none : n - k ≡ 0 = omega arith in ap (each_byte test (at + k)) none

pub first_byte : (test : ℕ → Bool) (at n : ℕ) → each_byte test at n ≡ each_byte test (at + 0) (n - 0)
first_byte test at n =
    let same : at ≡ at + 0 = omega arith in
    let count : n ≡ n - 0 = omega arith in
    ap (λ a. each_byte test a n) same ∙ ap (each_byte test (at + 0)) count

-- writes that come to the same bytes
pub same_writes : (m o : Map) (ws ws' : List Write) → ((a b : ℕ) → written ws a b ≡ written ws' a b) → IsEntered m o ws → IsEntered m o ws'
same_writes m o ws ws' same entered = record {
  bytes = λ a. entered.bytes a ∙ ap (λ (f : ℕ → ℕ). option_map f (byte_in m a)) (λ i b. same a b i);
  held = λ a. entered.held a ∙ ap (λ (f : ℕ → ℕ). option_map f (held_in m a)) (λ i b. same a b i);
  code = entered.code;
  permissions = entered.permissions;
  free = entered.free;
  break_at = entered.break_at;
  break_start = entered.break_start;
}

-- no zeros, and one more
pub no_zeros : (at a b : ℕ) → written [] a b ≡ written (zeros_written at 0 ∷ []) a b
no_zeros at a b = elim (cases_lt a at) [
  | inl lt ↦ rw (lt-leb at a lt) refl
  | inr le ↦ let past : at + 0 ≤ a = omega (arith, le) in rw (le-ltb a (at + 0) past, and_right (leb at a) false refl) refl
]

pub one_more : (at i a b : ℕ) → written (zeros_written at i ∷ zero_stored (at + i) ∷ []) a b ≡ written (zeros_written at (i + 1) ∷ []) a b
one_more at i a b = elim (cases_lt a (at + i)) [
  | inl lt ↦ let lt' : a < at + (i + 1) = omega (arith, lt) in rw (lt-leb (at + i) a lt, lt-ltb a (at + i) lt, lt-ltb a (at + (i + 1)) lt') refl
  | inr le ↦ behind le (cases_lt a (at + (i + 1)))
]
  where
    behind : at + i ≤ a → (a < at + (i + 1)) ⊎ (at + (i + 1) ≤ a) → written (zeros_written at i ∷ zero_stored (at + i) ∷ []) a b ≡ written (zeros_written at (i + 1) ∷ []) a b
    behind le (inl lt) =
        let here : a - (at + i) ≡ 0 = omega (arith, le, lt) in
        let low : at ≤ a = omega (arith, le) in
        let lt' : a < at + i + 1 = omega (arith, lt) in
        rw (le-leb (at + i) a le, lt-ltb a (at + i + 1) lt', le-leb at a low, lt-ltb a (at + (i + 1)) lt) (ap (byte_of 0) here)
    behind le (inr past) =
        let past' : at + i + 1 ≤ a = omega (arith, past) in
        rw (le-leb (at + i) a le, le-ltb a (at + i + 1) past', le-ltb a (at + i) le, le-ltb a (at + (i + 1)) past, and_right (leb at a) false refl) refl
