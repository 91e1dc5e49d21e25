-- The bytes of a segment after a store, and which addresses lie in it.
use Rattle.page_map.proofs.Laws.{over-in, with_word-after, with_word-before, with_word-inside}
use Rattle.shared_procs.proofs.Common.{◌≡◌, ℕ, ◌+◌, ◌-◌, ◌/◌, ◌%◌, ◌^◌, ◌<◌, ◌≤◌, ◌⊎◌, inl, inr, true, false, List, length, slice_index, refl, sym, ap, ◌∙◌, arith, byte_over, cases_lt, false≢true, is_in_segment, IsAccessSize, IsGap, le-leb, le-ltb, lies_within, lt-leb, lt-ltb, nat_tests, over-high, over-low, SEGMENT_AT, SEGMENT_SIZE, shared_in, with_word}

pub small_byte : (x : ℕ) → x < 256 → x % 256 ≡ x
small_byte x lt = omega arith

modulo_twice : (x : ℕ) → x % 256 % 256 ≡ x % 256
modulo_twice x = omega arith

-- the bytes of a segment after a store that lies in it
pub shared-stored : (segment : List ℕ) (at size v a : ℕ) → length segment ≡ SEGMENT_SIZE → SEGMENT_AT ≤ at → at + size ≤ SEGMENT_AT + SEGMENT_SIZE
    → SEGMENT_AT ≤ a
    → shared_in (with_word segment (at - SEGMENT_AT) size v) a ≡ byte_over (record { at = at; size = size; value = v }) a (shared_in segment a)
shared-stored segment at size v a whole from to past =
    elim (cases_lt a at) [
      | inl low ↦
          ap (λ x. x % 256) (with_word-before segment (at - SEGMENT_AT) size v (a - SEGMENT_AT) fits (omega arith))
          ∙ sym (over-low at size v a (shared_in segment a) low)
      | inr on ↦
          elim (cases_lt a (at + size)) [
            | inl within ↦
                let there : a - SEGMENT_AT ≡ at - SEGMENT_AT + (a - at) = omega arith in
                ap (λ q. slice_index (with_word segment (at - SEGMENT_AT) size v) q % 256) there
                ∙ ap (λ x. x % 256) (with_word-inside segment (at - SEGMENT_AT) size v (a - at) fits (omega arith))
                ∙ modulo_twice (v / 256 ^ (a - at))
                ∙ sym (over-in at size v a (shared_in segment a) on within)
            | inr high ↦
                ap (λ x. x % 256) (with_word-after segment (at - SEGMENT_AT) size v (a - SEGMENT_AT) fits (omega arith))
                ∙ sym (over-high at size v a (shared_in segment a) high)
          ]
    ]
  where
    fits : at - SEGMENT_AT + size ≤ length segment
    fits = omega (arith, whole)

-- where an access that lies in the segment begins and ends; each of its bytes lies there
pub within_from : (at size : ℕ) → lies_within at size ≡ true → SEGMENT_AT ≤ at
within_from at size is = grind (arith, nat_tests, is)

pub within_to : (at size : ℕ) → lies_within at size ≡ true → at + size ≤ SEGMENT_AT + SEGMENT_SIZE
within_to at size is = grind (arith, nat_tests, is)

pub is_inside : (a : ℕ) → SEGMENT_AT ≤ a → a < SEGMENT_AT + SEGMENT_SIZE → is_in_segment a ≡ true
is_inside a from to = rw (le-leb SEGMENT_AT a from, lt-ltb a (SEGMENT_AT + SEGMENT_SIZE) to) refl

pub is_below : (a : ℕ) → a < SEGMENT_AT → is_in_segment a ≡ false
is_below a low = rw (lt-leb SEGMENT_AT a low) refl

pub is_past : (a : ℕ) → SEGMENT_AT + SEGMENT_SIZE ≤ a → is_in_segment a ≡ false
is_past a past = rw (le-leb SEGMENT_AT a (omega arith), le-ltb a (SEGMENT_AT + SEGMENT_SIZE) past) refl

pub inside_from : (a : ℕ) → is_in_segment a ≡ true → SEGMENT_AT ≤ a
inside_from a is = grind (arith, nat_tests, is)

pub inside_to : (a : ℕ) → is_in_segment a ≡ true → a < SEGMENT_AT + SEGMENT_SIZE
inside_to a is = grind (arith, nat_tests, is)

pub bytes_inside : (at size a : ℕ) → lies_within at size ≡ true → at ≤ a → a < at + size → is_in_segment a ≡ true
bytes_inside at size a is low high =
    let from = within_from at size is in
    let to = within_to at size is in
    is_inside a (omega arith) (omega arith)

-- no page lies in the segment
pub inside_gap : (a : ℕ) → is_in_segment a ≡ true → IsGap (a / 4096)
inside_gap a is =
    let from = inside_from a is in
    let to = inside_to a is in
    (omega arith, omega arith)

-- an access has few bytes
pub access_bytes : (n : ℕ) → IsAccessSize n → (0 < n) × (n ≤ 8)
access_bytes n (inl e) = (omega arith, omega arith)
access_bytes n (inr (inl e)) = (omega arith, omega arith)
access_bytes n (inr (inr (inl e))) = (omega arith, omega arith)
access_bytes n (inr (inr (inr e))) = (omega arith, omega arith)

-- of an access that doesn't lie in the segment no byte does, or one lies beside it, where no page lies either
abbrev pub IsOutside : ℕ → ℕ → Type 0
IsOutside at size =
    ((a : ℕ) → at ≤ a → a < at + size → is_in_segment a ≡ false) ⊎ ((k : ℕ) × (k < size) × (is_in_segment (at + k) ≡ false) × IsGap ((at + k) / 4096))

pub outside : (at size : ℕ) → IsAccessSize size → lies_within at size ≡ false → IsOutside at size
outside at size access fails =
    let bytes = access_bytes size access in
    let some = bytes.0 in
    let few = bytes.1 in
    elim (cases_lt at SEGMENT_AT) [
      | inl low ↦
          elim (cases_lt SEGMENT_AT (at + size)) [
            | inl over ↦ inr (0, some, is_below (at + 0) (omega arith), (omega arith, omega arith))
            | inr below ↦ inl (λ a low high. is_below a (omega arith))
          ]
      | inr from ↦
          elim (cases_lt (SEGMENT_AT + SEGMENT_SIZE) (at + size)) [
            | inl over ↦
                elim (cases_lt at (SEGMENT_AT + SEGMENT_SIZE)) [
                  | inl on ↦ inr (size - 1, omega arith, is_past (at + (size - 1)) (omega arith), (omega arith, omega arith))
                  | inr past ↦ inl (λ a low high. is_past a (omega arith))
                ]
            | inr to ↦
                let both : lies_within at size ≡ true = rw (le-leb SEGMENT_AT at from, le-leb (at + size) (SEGMENT_AT + SEGMENT_SIZE) to) refl in
                absurd (false≢true (sym fails ∙ both))
          ]
    ]
