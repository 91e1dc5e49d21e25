-- Stores: bytes that are written into a page, one by one or side by side.
use Rattle.std.proofs.Common.{◌≡◌, ℕ, zero, suc, ◌+◌, ◌-◌, ◌*◌, ◌/◌, ◌%◌, ◌^◌, ◌<◌, ◌≤◌, inl, inr, List, ◌++◌, length, get_or, take, drop, Option, Some, None, slice_index, refl, sym, ap, ◌∙◌, arith, add-one, length-append, length-drop}
use Rattle.std.proofs.lemmas.Bool.{cases_lt, lt-ltb, le-ltb, lt-leb, le-leb}
use Rattle.std.proofs.lemmas.List.{get_or-take, get_or-drop, get_or-append_right, get_or_append_left, length-take-le}
use Rattle.std.proofs.Math.Nat.{div-one, div-div-eq-div-mul, pow-suc}
use Rattle.std.specs.Int.{bytes_low_first, byte_at}
use Rattle.std.specs.Option.{option_map}
use Rattle.byte_views.specs.Words.{with_word}
use Rattle.mach_types.specs.Bytes.{byte_of, byte_over}

length-low : (i n v : ℕ) → length (bytes_low_first i n v) ≡ n
length-low i zero v = refl
length-low i (suc n) v = ap suc (length-low (suc i) n v)

low-at : (i n v k : ℕ) → k < n → get_or (bytes_low_first i n v) k 0 ≡ byte_at (i + k) v
low-at i zero v k lt = absurd (omega arith)
low-at i (suc n) v zero lt = let e : i ≡ i + 0 = omega arith in ap (λ j. byte_at j v) e
low-at i (suc n) v (suc k) lt = let e : suc i + k ≡ i + suc k = omega arith in low-at (suc i) n v k (omega arith) ∙ ap (λ j. byte_at j v) e

pub byte_at-byte_of : (k v : ℕ) → byte_at k v ≡ byte_of v k
byte_at-byte_of zero v = ap (λ x. x % 256) (sym (div-one v))
byte_at-byte_of (suc k) v = refl

front_length : (bs : List ℕ) (p size v : ℕ) → p + size ≤ length bs → length (take p bs ++ bytes_low_first 0 size v) ≡ p + size
front_length bs p size v fits =
    let first : length (take p bs) ≡ p = length-take-le p bs (omega arith) in
    omega (arith, first, length-append (take p bs) (bytes_low_first 0 size v), length-low 0 size v)

pub with_word-before : (bs : List ℕ) (p size v q : ℕ) → p + size ≤ length bs → q < p → slice_index (with_word bs p size v) q ≡ slice_index bs q
unfolding with_word
with_word-before bs p size v q fits lt =
    let first : length (take p bs) ≡ p = length-take-le p bs (omega arith) in
    let all = front_length bs p size v fits in
    get_or_append_left (take p bs ++ bytes_low_first 0 size v) (drop (p + size) bs) 0 q (omega (arith, all))
    ∙ get_or_append_left (take p bs) (bytes_low_first 0 size v) 0 q (omega (arith, first))
    ∙ get_or-take p bs q 0 lt

pub with_word-inside : (bs : List ℕ) (p size v k : ℕ) → p + size ≤ length bs → k < size → slice_index (with_word bs p size v) (p + k) ≡ byte_of v k
unfolding with_word
with_word-inside bs p size v k fits lt =
    let first : length (take p bs) ≡ p = length-take-le p bs (omega arith) in
    let all = front_length bs p size v fits in
    let here : p + k - p ≡ k = omega arith in
    let zeroth : 0 + k ≡ k = omega arith in
    get_or_append_left (take p bs ++ bytes_low_first 0 size v) (drop (p + size) bs) 0 (p + k) (omega (arith, all))
    ∙ get_or-append_right (take p bs) (bytes_low_first 0 size v) p (p + k) 0 first (omega arith)
    ∙ ap (λ j. get_or (bytes_low_first 0 size v) j 0) here
    ∙ low-at 0 size v k lt ∙ ap (λ j. byte_at j v) zeroth ∙ byte_at-byte_of k v

pub with_word-after : (bs : List ℕ) (p size v q : ℕ) → p + size ≤ length bs → p + size ≤ q → slice_index (with_word bs p size v) q ≡ slice_index bs q
unfolding with_word
with_word-after bs p size v q fits le =
    let all = front_length bs p size v fits in
    let there : p + size + (q - (p + size)) ≡ q = omega arith in
    get_or-append_right (take p bs ++ bytes_low_first 0 size v) (drop (p + size) bs) (p + size) q 0 all le
    ∙ get_or-drop (p + size) bs (q - (p + size)) 0
    ∙ ap (λ j. get_or bs j 0) there

pub length-with_word : (bs : List ℕ) (p size v : ℕ) → p + size ≤ length bs → length (with_word bs p size v) ≡ length bs
unfolding with_word
length-with_word bs p size v fits =
    let all = front_length bs p size v fits in
    omega (arith, all, length-append (take p bs ++ bytes_low_first 0 size v) (drop (p + size) bs), length-drop (p + size) bs)

-- the byte at an address after a store
pub over-in : (at n v a below : ℕ) → at ≤ a → a < at + n → byte_over (record { at = at; size = n; value = v }) a below ≡ byte_of v (a - at)
over-in at n v a below from to = rw (le-leb at a from, lt-ltb a (at + n) to) refl

pub over-low : (at n v a below : ℕ) → a < at → byte_over (record { at = at; size = n; value = v }) a below ≡ below
over-low at n v a below low = rw (lt-leb at a low) refl

pub over-high : (at n v a below : ℕ) → at + n ≤ a → byte_over (record { at = at; size = n; value = v }) a below ≡ below
over-high at n v a below high = rw (le-leb at a (omega arith), le-ltb a (at + n) high) refl

one_byte : (rest v k : ℕ) → rest ≡ v / 256 ^ k → byte_of rest 0 ≡ byte_of v k
one_byte rest v k e = ap (λ x. x % 256) (div-one rest ∙ e)

-- one byte more of a store
pub over-more : (at k v rest a below : ℕ) → rest ≡ v / 256 ^ k → byte_over (record { at = at + k; size = 1; value = rest }) a (byte_over (record { at = at; size = k; value = v }) a below) ≡ byte_over (record { at = at; size = k + 1; value = v }) a below
over-more at k v rest a below e = elim (cases_lt a (at + k)) [
  | inl low ↦ over-low (at + k) 1 rest a _ low ∙ elim (cases_lt a at) [
    | inl under ↦ over-low at k v a below under ∙ sym (over-low at (k + 1) v a below under)
    | inr from ↦ over-in at k v a below from low ∙ sym (over-in at (k + 1) v a below from (omega arith))
  ]
  | inr from ↦ elim (cases_lt a (at + k + 1)) [
    | inl to ↦
        let none : a - (at + k) ≡ 0 = omega arith in
        let some : k ≡ a - at = omega arith in
        over-in (at + k) 1 rest a _ from to ∙ ap (byte_of rest) none ∙ one_byte rest v k e ∙ ap (byte_of v) some ∙ sym (over-in at (k + 1) v a below (omega arith) (omega arith))
    | inr high ↦ over-high (at + k) 1 rest a _ high ∙ over-high at k v a below from ∙ sym (over-high at (k + 1) v a below (omega arith))
  ]
]

pub stored-more : (at k v rest a : ℕ) (o : Option ℕ) → rest ≡ v / 256 ^ k → option_map (byte_over (record { at = at + k; size = 1; value = rest }) a) (option_map (byte_over (record { at = at; size = k; value = v }) a) o) ≡ option_map (byte_over (record { at = at; size = k + 1; value = v }) a) o
stored-more at k v rest a None e = refl
stored-more at k v rest a (Some below) e = ap Some (over-more at k v rest a below e)

-- no byte of a store
pub stored-none : (at v a : ℕ) (o : Option ℕ) → option_map (byte_over (record { at = at; size = 0; value = v }) a) o ≡ o
stored-none at v a None = refl
stored-none at v a (Some below) = ap Some (elim (cases_lt a at) [
  | inl low ↦ over-low at 0 v a below low
  | inr from ↦ over-high at 0 v a below (omega arith)
])

-- the next byte's number
pub next_rest : (v k rest : ℕ) → rest ≡ v / 256 ^ k → rest / 256 ≡ v / 256 ^ (k + 1)
next_rest v k rest e =
    let power : 256 ^ (k + 1) ≡ 256 ^ k * 256 = ap (λ j. 256 ^ j) (add-one k) ∙ pow-suc 256 k in
    ap (λ x. x / 256) e ∙ div-div-eq-div-mul v (256 ^ k) 256 ∙ ap (λ x. v / x) (sym power)

modulo_twice : (x : ℕ) → x % 256 % 256 ≡ x % 256
modulo_twice x = omega arith

-- a byte of a page into which a store within the page was written
pub stored-in_page : (bytes : List ℕ) (a at size v : ℕ) → length bytes ≡ 4096 → at % 4096 + size ≤ 4096 → a / 4096 ≡ at / 4096
    → slice_index (with_word bytes (at % 4096) size v) (a % 4096) % 256
    ≡ byte_over (record { at = at; size = size; value = v }) a (slice_index bytes (a % 4096) % 256)
stored-in_page bytes a at size v whole fits page = elim (cases_lt a at) [
  | inl low ↦
      ap (λ x. x % 256) (with_word-before bytes (at % 4096) size v (a % 4096) (omega arith) (omega arith)) ∙ sym (over-low at size v a _ low)
  | inr from ↦ elim (cases_lt a (at + size)) [
    | inl to ↦
        let there : a % 4096 ≡ at % 4096 + (a - at) = omega arith in
        ap (λ q. slice_index (with_word bytes (at % 4096) size v) q % 256) there
        ∙ ap (λ x. x % 256) (with_word-inside bytes (at % 4096) size v (a - at) (omega arith) (omega arith))
        ∙ modulo_twice (v / 256 ^ (a - at))
        ∙ sym (over-in at size v a _ from to)
    | inr high ↦
        ap (λ x. x % 256) (with_word-after bytes (at % 4096) size v (a % 4096) (omega arith) (omega arith)) ∙ sym (over-high at size v a _ high)
  ]
]

-- a byte of another page isn't one of the store
pub over-elsewhere : (a at size v below : ℕ) → at % 4096 + size ≤ 4096 → (a / 4096 ≡ at / 4096 → ⊥)
    → byte_over (record { at = at; size = size; value = v }) a below ≡ below
over-elsewhere a at size v below fits two = elim (cases_lt a at) [
  | inl low ↦ over-low at size v a below low
  | inr from ↦ elim (cases_lt a (at + size)) [
    | inl to ↦ absurd (two (omega arith))
    | inr high ↦ over-high at size v a below high
  ]
]
