-- The digits of a number but for the last two, and these.
use Rattle.std.proofs.Common.{◌≡◌, ℕ, ◌+◌, ◌/◌, ◌%◌, ◌<◌, ◌≤◌, ◌^◌, List, [], ◌∷◌, ◌++◌, length, ap, ◌∙◌, arith, append_assoc, length-append}
use Rattle.std.proofs.lemmas.Fmt.{decimal_step, length-decimal-le}
use Rattle.std.specs.Fmt.{decimal}

pub few_digits : (n : ℕ) → n < 2 ^ 64 → length (decimal n) ≤ 20
few_digits n fits = length-decimal-le 20 n (omega arith) (omega arith) fits

-- its last two digits
tens_left : (n : ℕ) → n / 10 / 10 ≡ n / 100
tens_left n = omega arith

tens : (n : ℕ) → n / 10 % 10 ≡ n % 100 / 10
tens n = omega arith

ones : (n : ℕ) → n % 10 ≡ n % 100 % 10
ones n = omega arith

pub two_more : (n : ℕ) → 100 ≤ n → n < 2 ^ 64 → decimal n ≡ decimal (n / 100) ++ ((48 + n % 100 / 10) ∷ (48 + n % 100 % 10) ∷ [])
two_more n many fits =
    let ten : 10 ≤ n / 10 = omega arith in
    let small : n / 10 < 2 ^ 64 = omega arith in
    decimal_step n (omega arith) fits
    ∙ ap (λ (ds : List ℕ). ds ++ ((48 + n % 10) ∷ [])) (decimal_step (n / 10) ten small)
    ∙ append_assoc (decimal (n / 10 / 10)) ((48 + n / 10 % 10) ∷ []) ((48 + n % 10) ∷ [])
    ∙ (λ i. decimal (tens_left n i) ++ ((48 + tens n i) ∷ (48 + ones n i) ∷ []))

-- how long a line is with a space and a number before it
pub longer : (n x : ℕ) (line new : List ℕ) → n < 2 ^ 64 → new ≡ x ∷ (decimal n ++ line) → length new ≤ length line + 21
longer n x line new fits is = omega (arith, ap length is, length-append (decimal n) line, few_digits n fits)
