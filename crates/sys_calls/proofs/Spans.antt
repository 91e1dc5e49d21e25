-- The spans of bytes that records name, one after the other.
use Rattle.sys_calls.proofs.Common.{◌≡◌, ℕ, zero, suc, ◌+◌, ◌-◌, ◌*◌, ◌<◌, ◌≤◌, ◌^◌, min, true, false, List, [], ◌∷◌, ◌++◌, length, take, Option, is_some, unwrap_or, refl, ap, ◌∙◌, arith, inl, inr, cases_lt, and_parts, Here, Map, Span, byte_in, byte_in-ends, bytes_from, each_byte, number_at, spans_at, add-one}

-- the record at an index
abbrev pub span_at : Here → ℕ → ℕ → Span
span_at h at k = record { at = number_at h (at + 16 * k) 8; len = number_at h (at + 16 * k + 8) 8 }

-- from a record on: it is the first, and the next ones follow; all of them; and none behind the last
pub spans_more : (h : Here) (at n k : ℕ) → k < n → spans_at h (at + 16 * k) (n - k) ≡ span_at h at k ∷ spans_at h (at + 16 * (k + 1)) (n - (k + 1))
spans_more h at n k lt =
    let count : n - k ≡ suc (n - (k + 1)) = omega arith in
    let next : at + 16 * k + 16 ≡ at + 16 * (k + 1) = omega arith in
    ap (spans_at h (at + 16 * k)) count ∙ ap (λ (a : ℕ). span_at h at k ∷ spans_at h a (n - (k + 1))) next

pub spans_all : (h : Here) (at n : ℕ) → spans_at h (at + 16 * 0) (n - 0) ≡ spans_at h at n
spans_all h at n = ap (λ (a : ℕ). spans_at h a (n - 0)) (let e : at + 16 * 0 ≡ at = omega arith in e) ∙ ap (spans_at h at) (let e : n - 0 ≡ n = omega arith in e)

pub spans_none : (h : Here) (at n : ℕ) → spans_at h (at + 16 * n) (n - n) ≡ []
spans_none h at n = ap (spans_at h (at + 16 * n)) (let e : n - n ≡ 0 = omega arith in e)

-- one more byte at the end
pub bytes_from-more : (byte : ℕ → Option ℕ) (at n : ℕ) → bytes_from byte at (n + 1) ≡ bytes_from byte at n ++ unwrap_or (byte (at + n)) 0 ∷ []
bytes_from-more byte at n = rw add-one (go at n)
  where
    go : (at n : ℕ) → bytes_from byte at (suc n) ≡ bytes_from byte at n ++ unwrap_or (byte (at + n)) 0 ∷ []
    go at zero = ap (λ (a : ℕ). unwrap_or (byte a) 0 ∷ []) (omega arith)
    go at (suc n) = ap (λ (bs : List ℕ). unwrap_or (byte at) 0 ∷ bs) (go (at + 1) n ∙ ap (λ (a : ℕ). bytes_from byte (at + 1) n ++ unwrap_or (byte a) 0 ∷ []) (omega arith))

pub length-bytes_from : (byte : ℕ → Option ℕ) (at n : ℕ) → length (bytes_from byte at n) ≡ n
length-bytes_from byte at zero = refl
length-bytes_from byte at (suc n) = ap suc (length-bytes_from byte (at + 1) n)

-- the first of so many bytes
pub take-bytes_from : (byte : ℕ → Option ℕ) (at n r : ℕ) → take r (bytes_from byte at n) ≡ bytes_from byte at (min n r)
take-bytes_from byte at zero zero = refl
take-bytes_from byte at zero (suc r) = ap (bytes_from byte at) (let e : 0 ≡ min 0 (suc r) = omega arith in e)
take-bytes_from byte at (suc n) zero = ap (bytes_from byte at) (let e : 0 ≡ min (suc n) 0 = omega arith in e)
take-bytes_from byte at (suc n) (suc r) =
    ap (λ (bs : List ℕ). unwrap_or (byte at) 0 ∷ bs) (take-bytes_from byte (at + 1) n r) ∙ ap (bytes_from byte at) (let e : suc (min n r) ≡ min (suc n) (suc r) = omega arith in e)

-- the first of joined bytes
pub take-joined : (r : ℕ) (a b : List ℕ) → take r (a ++ b) ≡ take r a ++ take (r - length (take r a)) b
take-joined zero a b = refl
take-joined (suc r) [] b = ap (λ (n : ℕ). take n b) (let e : suc r ≡ suc r - 0 = omega arith in e)
take-joined (suc r) (x ∷ a) b =
    let e : r - length (take r a) ≡ suc r - suc (length (take r a)) = omega arith in
    ap (λ (bs : List ℕ). x ∷ bs) (take-joined r a b ∙ ap (λ (n : ℕ). take r a ++ take n b) e)

-- bytes that can be read end at 2^64
below_end : (m : Map) (a : ℕ) → is_some (byte_in m a) ≡ true → a < 2 ^ 64
below_end m a some = elim (cases_lt a (2 ^ 64)) [
  | inl lt ↦ lt
  | inr le ↦ let none : is_some (byte_in m a) ≡ false = ap is_some (byte_in-ends m a le) in cc
]

pub readable_end : (m : Map) (at n : ℕ) → at < 2 ^ 64 → each_byte (λ a. is_some (byte_in m a)) at n ≡ true → at + n ≤ 2 ^ 64
readable_end m at zero lt all = omega arith
readable_end m at (suc zero) lt all = omega arith
readable_end m at (suc (suc n)) lt all =
    let rest = (and_parts (is_some (byte_in m at)) _ all).1 in
    let next = below_end m (at + 1) (and_parts (is_some (byte_in m (at + 1))) _ rest).0 in
    let le = readable_end m (at + 1) (suc n) next rest in
    omega (arith, le)
