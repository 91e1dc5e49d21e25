-- Hexadecimal digits by pairs.
use Rattle.std.proofs.Common.{◌≡◌, ℕ, zero, suc, ◌+◌, ◌-◌, ◌*◌, ◌/◌, ◌%◌, ◌^◌, ◌<◌, ◌≤◌, Bool, true, ◌&&◌, T, eqb, List, [], ◌∷◌, ◌++◌, length, drop, get_or, refl, ap, sym, ◌∙◌, inl, inr, arith, eq-zero-or-pos, eqb→eq, append_assoc, append-nil, drop-cons, add-one, add-suc}
use Rattle.std.specs.Fmt.{decimal}
use Rattle.std.proofs.lemmas.Fmt.{decimal_digit}
use Rattle.std.proofs.lemmas.List.{drop_all}
use Rattle.std.proofs.Math.Nat.{div-div-eq-div-mul, pow-succ'}
use lib.Ieee.Fits.{and_l, and_r}
use Rattle.mach_types.specs.declared.events.Hart.{Hart}
use Rattle.mach_types.specs.declared.events.Kind.TheVariants.{Exec}
use Rattle.mach_types.specs.declared.events.Tid.{Tid}
use Rattle.step_log.proofs.Printed.{length-hex_text, hex_text-more, hex_text-none}
use Rattle.step_log.specs.Text.{hex_digit, hex_text, entry_text}
use Rattle.step_log.specs.declared.printing.TheConstants.{PAIRS}

-- the table
abbrev are_pairs : ℕ → Bool
are_pairs zero = true
are_pairs (suc b) =
    (eqb (get_or PAIRS (2 * b) 0) (hex_digit (b / 16)) && eqb (get_or PAIRS (2 * b + 1) 0) (hex_digit (b % 16))) && are_pairs b

below : (n b : ℕ) → T (are_pairs n) → b < n → (get_or PAIRS (2 * b) 0 ≡ hex_digit (b / 16)) × (get_or PAIRS (2 * b + 1) 0 ≡ hex_digit (b % 16))
below zero b t h = absurd (omega arith)
below (suc n) b t h =
    elim (eq-zero-or-pos (n - b)) [
      | inl z ↦
          let e : b ≡ n = omega arith in
          let a = and_l _ (are_pairs n) t in
          rw e (eqb→eq _ _ (and_l _ _ a), eqb→eq _ _ (and_r _ _ a))
      | inr g ↦ below n b (and_r _ (are_pairs n) t) (omega arith)
    ]

pub PAIRS_at : (b : ℕ) → b < 256 → (get_or PAIRS (2 * b) 0 ≡ hex_digit (b / 16)) × (get_or PAIRS (2 * b + 1) 0 ≡ hex_digit (b % 16))
PAIRS_at b h = below 256 b tt h

-- two digits
pub hex_text-two : (b : ℕ) → b < 256 → hex_text 2 b ≡ hex_digit (b / 16) ∷ hex_digit (b % 16) ∷ []
unfolding hex_text
hex_text-two b small =
    let high : b / 16 % 16 ≡ b / 16 = omega arith in
    ap (λ d. hex_digit d ∷ hex_digit (b % 16) ∷ []) high

-- two digits are those of the lowest byte
lowest_byte : (n : ℕ) → hex_text 2 n ≡ hex_text 2 (n % 256)
unfolding hex_text
lowest_byte n =
    let high : n / 16 % 16 ≡ n % 256 / 16 % 16 = omega arith in
    let low : n % 16 ≡ n % 256 % 16 = omega arith in
    rw (high, low) refl

-- two places more, at the front
two_first : (places n : ℕ) → hex_text (2 + places) n ≡ hex_text 2 (n / 16 ^ places) ++ hex_text places n
unfolding hex_text
two_first zero n = let same : n / 1 ≡ n = omega arith in rw same (sym (append-nil (hex_text 2 n)))
two_first (suc places) n =
    let shorter : n / 16 / 16 ^ places ≡ n / 16 ^ suc places = rw pow-succ' (div-div-eq-div-mul n 16 (16 ^ places)) in
    let high = two_first places (n / 16) in
    let regroup = append_assoc (hex_text 2 (n / 16 / 16 ^ places)) (hex_text places (n / 16)) (hex_digit (n % 16) ∷ []) in
    rw (add-suc 2 places)
    (ap (λ ds. ds ++ hex_digit (n % 16) ∷ []) high ∙ regroup ∙ ap (λ k. hex_text 2 k ++ hex_text (suc places) n) shorter)

two_and : (b : ℕ) (rest : List ℕ) → get_or (hex_text 2 b) 0 0 ∷ get_or (hex_text 2 b) 1 0 ∷ rest ≡ hex_text 2 b ++ rest
unfolding hex_text
two_and b rest = refl

-- the two digits of a byte of a number before those of the bytes below it
pub pair_first : (places n b : ℕ) (pair rest : List ℕ) → pair ≡ hex_text 2 b → b ≡ n / 16 ^ places % 256 → rest ≡ hex_text places n
    → get_or pair 0 0 ∷ get_or pair 1 0 ∷ rest ≡ hex_text (2 + places) n
pair_first places n b pair rest is byte lower =
    let high = lowest_byte (n / 16 ^ places) ∙ ap (hex_text 2) (sym byte) in
    rw (is, lower, two_first places n, high) (two_and b (hex_text places n))

-- the elements from a place on, so many
abbrev pub elements : ℕ → ℕ → List ℕ → List ℕ
elements zero i ds = []
elements (suc n) i ds = get_or ds i 0 ∷ elements n (i + 1) ds

pub elements_first : (n i : ℕ) (ds : List ℕ) → i + n ≤ length ds → elements n i ds ++ drop (i + n) ds ≡ drop i ds
elements_first zero i ds within = let same : i + 0 ≡ i = omega arith in rw same refl
elements_first (suc n) i ds within =
    let next : i + suc n ≡ i + 1 + n = omega arith in
    rw (next, elements_first n (i + 1) ds (omega arith), add-one) (sym (drop-cons ds i 0 (omega arith)))

elements_are : (n : ℕ) (ds : List ℕ) → length ds ≡ n → elements n 0 ds ≡ ds
elements_are n ds long =
    let none : drop (0 + n) ds ≡ [] = drop_all (0 + n) ds (omega arith) in
    sym (append-nil (elements n 0 ds)) ∙ ap (λ xs. elements n 0 ds ++ xs) (sym none) ∙ elements_first n 0 ds (omega arith)

pub exec_text : (hart : Hart) (tid : Tid) (pc : ℕ) (digits : List ℕ) → tid.0 < 10 → digits ≡ hex_text 16 pc
    → (48 + hart.0) ∷ 32 ∷ 101 ∷ 120 ∷ 101 ∷ 99 ∷ 32 ∷ (48 + tid.0) ∷ 32 ∷ (elements 16 0 digits ++ 10 ∷ [])
    ≡ entry_text (record { hart = hart; kind = Exec; tid = tid; pc = pc })
exec_text hart tid pc digits small is =
    let whole : elements 16 0 digits ≡ digits = elements_are 16 digits (omega (arith, ap length is, length-hex_text 16 pc)) in
    rw (decimal_digit tid.0 small)
    (ap (λ (ds : List ℕ). (48 + hart.0) ∷ 32 ∷ 101 ∷ 120 ∷ 101 ∷ 99 ∷ 32 ∷ (48 + tid.0) ∷ 32 ∷ (ds ++ 10 ∷ [])) (whole ∙ is))
