-- Numbers in decimal and in hexadecimal.
use Rattle.std.proofs.Common.{◌≡◌, ℕ, ◌+◌, ◌-◌, ◌*◌, ◌^◌, ◌<◌, ◌≤◌, Bool, ◌&&◌, true, false, cond, ltb, List, [], ◌∷◌, length, take, get_or, Some, None, refl, ap, ◌∙◌, arith, rules}
use Rattle.std.specs.Char.{digit_value, is_ascii_digit}
use Rattle.std.specs.List.{list_all}
use Rattle.std.specs.Str.Parse.{digits_value, AllDigits}
use Rattle.std.proofs.lemmas.List.{take_all}
use Rattle.std.proofs.lemmas.Int.Digits.{digits_value_more}
use Rattle.std.proofs.lemmas.Str.Parse.{IsNumeralModel, numerals_by_value, digit_at, digits_value-take-le}
use Rattle.std.proofs.lemmas.Bool.Decides.{nat_tests}
use Rattle.step_log.specs.Script.{is_hex_digit}

pub both : (a b : Bool) → (a && b) ≡ true → (a ≡ true) × (b ≡ true)
both true b h = (refl, h)
both false b h = cc

pub decimals : IsNumeralModel (λ ds. list_all is_ascii_digit ds ≡ true) (digits_value 10)
decimals = numerals_by_value (λ ds. list_all is_ascii_digit ds ≡ true) (search rules)

pub digit_value_decimal : (c : ℕ) → 48 ≤ c → c ≤ 57 → digit_value c ≡ c - 48
digit_value_decimal c low high = grind (arith, nat_tests)

-- the number that is written up to a place and one digit more
pub decimal_more : (ds : List ℕ) (i : ℕ) → list_all is_ascii_digit ds ≡ true → i < length ds
    → digits_value 10 (take (i + 1) ds) ≡ digits_value 10 (take i ds) * 10 + (get_or ds i 0 - 48)
decimal_more ds i all within =
    let digit = digit_at ds i (decimals.to ds all) within in
    digits_value_more 10 ds i within ∙ ap (λ d. digits_value 10 (take i ds) * 10 + d) (digit_value_decimal (get_or ds i 0) digit.0 digit.1)

-- a number that is too large up to some place is too large
pub decimal_over : (ds : List ℕ) (i : ℕ) → list_all is_ascii_digit ds ≡ true → i < length ds
    → 2 ^ 32 ≤ digits_value 10 (take i ds) * 10 + (get_or ds i 0 - 48)
    → None ≡ cond (ltb (digits_value 10 ds) (2 ^ 32)) (Some (digits_value 10 ds)) None
decimal_over ds i all within over =
    let more = decimal_more ds i all within in
    let whole : digits_value 10 (take (i + 1) ds) ≤ digits_value 10 ds = digits_value-take-le 10 ds (i + 1) (omega arith) in
    let large : 2 ^ 32 ≤ digits_value 10 ds = omega arith in
    grind (arith, nat_tests)

pub hex_digit_value_small : (c : ℕ) → is_hex_digit c ≡ true → digit_value c < 16
hex_digit_value_small c digit = grind (arith, nat_tests)

pub hex_digits : (ds : List ℕ) → list_all is_hex_digit ds ≡ true → AllDigits 16 ds
hex_digits [] all = tt
hex_digits (c ∷ cs) all =
    let parts = both (is_hex_digit c) (list_all is_hex_digit cs) all in
    (hex_digit_value_small c parts.0, hex_digits cs parts.1)

-- a number that was read to the end is small enough
pub decimal_whole : (ds : List ℕ) (i n : ℕ) → length ds ≤ i → n ≡ digits_value 10 (take i ds) → n < 2 ^ 32
    → Some n ≡ cond (ltb (digits_value 10 ds) (2 ^ 32)) (Some (digits_value 10 ds)) None
decimal_whole ds i n past is small =
    let all = ap (digits_value 10) (take_all i ds past) in
    let same : n ≡ digits_value 10 ds = is ∙ all in
    grind (arith, nat_tests)
