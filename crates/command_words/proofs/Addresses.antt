-- Addresses in hexadecimal.
use Rattle.std.proofs.Common.{◌≡◌, ℕ, ◌^◌, ◌<◌, ◌≤◌, ◌∙◌, true, List, [], ◌∷◌, length, Result, Ok, Err, refl, sym, ap, subst, arith}
use Rattle.std.specs.Char.{digit_value}
use Rattle.std.specs.List.{list_all}
use Rattle.std.specs.Result.{result_ok}
use Rattle.std.specs.Str.Parse.{AllDigits, IsNumeral, ParsesUnsigned, digits_value, without_leading_plus}
use Rattle.std.proofs.lemmas.Bool.{and_parts}
use Rattle.std.proofs.lemmas.Bool.Decides.{nat_tests}
use Rattle.std.proofs.lemmas.Int.Digits.{digits_value-lt}
use Rattle.std.proofs.lemmas.Str.Parse.{without_leading_plus_none}
use Rattle.std.proofs.Math.Nat.{pow-le-pow_right}
use Rattle.step_log.specs.Script.{is_hex_digit}
use Rattle.command_words.specs.Spans.{address_of}

digit_small : (c : ℕ) → is_hex_digit c ≡ true → digit_value c < 16
digit_small c digit = grind (arith, nat_tests)

digit_no_plus : (c : ℕ) → is_hex_digit c ≡ true → c ≡ 43 → ⊥
digit_no_plus c digit plus = grind (arith, nat_tests)

all_digits : (ds : List ℕ) → list_all is_hex_digit ds ≡ true → AllDigits 16 ds
all_digits [] all = tt
all_digits (c ∷ cs) all =
    let parts = and_parts (is_hex_digit c) (list_all is_hex_digit cs) all in
    (digit_small c parts.0, all_digits cs parts.1)

-- no plus stands first
no_plus : (ds : List ℕ) → list_all is_hex_digit ds ≡ true → without_leading_plus ds ≡ ds
no_plus [] all = refl
no_plus (c ∷ cs) all =
    without_leading_plus_none (c ∷ cs) (digit_no_plus c (and_parts (is_hex_digit c) (list_all is_hex_digit cs) all).0)

-- 16 digits fit an address
fits : (ds : List ℕ) → list_all is_hex_digit ds ≡ true → length ds ≤ 16 → digits_value 16 ds < 2 ^ 64
fits ds all few =
    let small = digits_value-lt 16 ds (all_digits ds all) in
    let most : 16 ^ length ds ≤ 16 ^ 16 = pow-le-pow_right (omega arith) few in
    omega arith

-- some hexadecimal digits, but not too many, parse as the address that they write
pub address_parsed : {E : Type 0} (text : List ℕ) (r : Result ℕ E) → ParsesUnsigned 64 16 text r
    → 1 ≤ length text → length text ≤ 16 → list_all is_hex_digit text ≡ true → result_ok r ≡ address_of text
address_parsed text (Ok n) parsed some few digits =
    let read : n ≡ digits_value 16 text = parsed.1 ∙ ap (digits_value 16) (no_plus text digits) in
    grind (arith, nat_tests)
address_parsed text (Err e) parsed some few digits =
    absurd (parsed (subst (λ ds. IsNumeral 16 ds × (digits_value 16 ds < 2 ^ 64)) (sym (no_plus text digits))
    ((omega arith, all_digits text digits), fits text digits few)))
