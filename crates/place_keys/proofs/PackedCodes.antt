-- The bytes of words tell the words.
use Rattle.std.proofs.Common.{◌≡◌, ℕ, ◌+◌, ◌/◌, ◌%◌, ◌<◌, ◌≤◌, List, [], ◌∷◌, ◌++◌, refl, sym, ap, ◌∙◌, append_assoc, zero, suc, arith, inl, inr}
use Rattle.std.proofs.lemmas.Bool.{cases_lt, lt-ltb, le-ltb}
unfoldable use Rattle.place_keys.specs.Packed.{packed_within}
use Rattle.place_keys.specs.Packed.{packed, packed_word}
use Rattle.place_keys.proofs.Codes.{IsKey}

-- the bytes of a small number, and of a large one
small_within : (more n : ℕ) → n < 128 → packed_within more n ≡ n ∷ []
unfolding packed_within
small_within zero n lt = refl
small_within (suc more) n lt = rw (lt-ltb n 128 lt) refl

large_within : (more n : ℕ) → 128 ≤ n → packed_within (suc more) n ≡ (n % 128 + 128) ∷ packed_within more (n / 128)
unfolding packed_within
large_within more n ge = rw (le-ltb n 128 ge) refl

-- more bytes than a number needs change nothing
enough_within : (more some n : ℕ) → n ≤ more → n ≤ some → packed_within more n ≡ packed_within some n
enough_within zero some n low high = small_within zero n (omega arith) ∙ sym (small_within some n (omega arith))
enough_within (suc more) zero n low high = small_within (suc more) n (omega arith) ∙ sym (small_within zero n (omega arith))
enough_within (suc more) (suc some) n low high = elim (cases_lt n 128) [
  | inl lt ↦ small_within (suc more) n lt ∙ sym (small_within (suc some) n lt)
  | inr ge ↦
      large_within more n ge ∙ ap (λ bytes. (n % 128 + 128) ∷ bytes) (enough_within more some (n / 128) (omega arith) (omega arith))
      ∙ sym (large_within some n ge)
]

pub small_packed : (n : ℕ) → n < 128 → packed_word n ≡ n ∷ []
small_packed n lt = small_within n n lt

pub large_packed : (n : ℕ) → 128 ≤ n → packed_word n ≡ (n % 128 + 128) ∷ packed_word (n / 128)
large_packed zero ge = absurd (omega arith)
large_packed (suc n) ge =
    large_within n (suc n) ge ∙ ap (λ bytes. (suc n % 128 + 128) ∷ bytes) (enough_within n (suc n / 128) (suc n / 128) (omega arith) (omega arith))

-- the bytes of a number tell it
zero_within : (n : ℕ) → packed_within 0 n ≡ n ∷ []
unfolding packed_within
zero_within n = refl

within_key : (more n m : ℕ) (x y : List ℕ) → packed_within more n ++ x ≡ packed_within more m ++ y → (n ≡ m) × (x ≡ y)
within_key zero n m x y e =
    let d : n ∷ x ≡ m ∷ y = sym (ap (λ ws. ws ++ x) (zero_within n)) ∙ e ∙ ap (λ ws. ws ++ y) (zero_within m) in
    (cc, cc)
within_key (suc more) n m x y e = elim (cases_lt n 128) [
  | inl lt ↦ elim (cases_lt m 128) [
    | inl low ↦
        let d : n ∷ x ≡ m ∷ y = sym (ap (λ ws. ws ++ x) (small_within (suc more) n lt)) ∙ e ∙ ap (λ ws. ws ++ y) (small_within (suc more) m low) in
        (cc, cc)
    | inr high ↦
        let d : n ∷ x ≡ (m % 128 + 128) ∷ (packed_within more (m / 128) ++ y) =
        sym (ap (λ ws. ws ++ x) (small_within (suc more) n lt)) ∙ e ∙ ap (λ ws. ws ++ y) (large_within more m high) in
        let same : n ≡ m % 128 + 128 = cc in
        absurd (omega arith)
  ]
  | inr ge ↦ elim (cases_lt m 128) [
    | inl low ↦
        let d : (n % 128 + 128) ∷ (packed_within more (n / 128) ++ x) ≡ m ∷ y =
        sym (ap (λ ws. ws ++ x) (large_within more n ge)) ∙ e ∙ ap (λ ws. ws ++ y) (small_within (suc more) m low) in
        let same : n % 128 + 128 ≡ m = cc in
        absurd (omega arith)
    | inr high ↦
        let d : (n % 128 + 128) ∷ (packed_within more (n / 128) ++ x) ≡ (m % 128 + 128) ∷ (packed_within more (m / 128) ++ y) =
        sym (ap (λ ws. ws ++ x) (large_within more n ge)) ∙ e ∙ ap (λ ws. ws ++ y) (large_within more m high) in
        let first : n % 128 + 128 ≡ m % 128 + 128 = cc in
        let rest : packed_within more (n / 128) ++ x ≡ packed_within more (m / 128) ++ y = cc in
        let found = within_key more (n / 128) (m / 128) x y rest in
        let above : n / 128 ≡ m / 128 = found.0 in
        (omega arith, found.1)
  ]
]

pub packed_key : IsKey (λ (n : ℕ). n) packed_word
packed_key n m x y e =
    within_key (n + m) n m x y
    (ap (λ ws. ws ++ x) (enough_within (n + m) n n (omega arith) (omega arith)) ∙ e ∙ ap (λ ws. ws ++ y) (enough_within m (n + m) m (omega arith) (omega arith)))

-- and there is at least one
record HasFirst (bytes : List ℕ) : Type 0 where
  first : ℕ
  rest : List ℕ
  is : bytes ≡ first ∷ rest

some_byte : (n : ℕ) → HasFirst (packed_word n)
some_byte n = elim (cases_lt n 128) [
  | inl lt ↦ record { first = n; rest = []; is = small_packed n lt }
  | inr ge ↦ record { first = n % 128 + 128; rest = packed_word (n / 128); is = large_packed n ge }
]

pub packed_tells : (words others : List ℕ) → packed words ≡ packed others → words ≡ others
packed_tells [] [] e = refl
packed_tells [] (y ∷ ys) e =
    let has = some_byte y in
    let no : [] ≡ has.first ∷ (has.rest ++ packed ys) = e ∙ ap (λ ws. ws ++ packed ys) has.is in
    cc
packed_tells (x ∷ xs) [] e =
    let has = some_byte x in
    let no : has.first ∷ (has.rest ++ packed xs) ≡ [] = sym (ap (λ ws. ws ++ packed xs) has.is) ∙ e in
    cc
packed_tells (x ∷ xs) (y ∷ ys) e =
    let found = packed_key x y (packed xs) (packed ys) e in
    let first : x ≡ y = found.0 in
    let others : xs ≡ ys = packed_tells xs ys found.1 in
    cc

-- HOW THEY ARE WRITTEN

pub byte_more : (all words new : List ℕ) (n : ℕ) → 128 ≤ n → words ++ packed_word n ≡ all → new ≡ words ++ (n % 128 + 128) ∷ [] → new ++ packed_word (n / 128) ≡ all
byte_more all words new n ge was is =
    ap (λ ws. ws ++ packed_word (n / 128)) is ∙ append_assoc words ((n % 128 + 128) ∷ []) (packed_word (n / 128)) ∙ ap (λ ws. words ++ ws) (sym (large_packed n ge)) ∙ was

pub byte_last : (all words new : List ℕ) (n : ℕ) → n < 128 → words ++ packed_word n ≡ all → new ≡ words ++ n ∷ [] → new ≡ all
byte_last all words new n lt was is = is ∙ ap (λ ws. words ++ ws) (sym (small_packed n lt)) ∙ was
