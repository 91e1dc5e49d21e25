-- Numbers in decimal.
use Rattle.std.proofs.Common.{◌≡◌, ℕ, ◌≤◌, true, List, length, Result, Ok, Err, arith, rules}
use Rattle.std.specs.Char.{is_ascii_digit}
use Rattle.std.specs.List.{list_all}
use Rattle.std.specs.Result.{result_ok}
use Rattle.std.specs.Str.Parse.{digits_value, ParsesUnsigned}
use Rattle.std.proofs.lemmas.Str.Parse.{IsNumeralModel, numerals_by_value, parse_digits}
use Rattle.std.proofs.lemmas.Bool.Decides.{nat_tests}
use Rattle.command_words.specs.Options.{number_of}

decimals : IsNumeralModel (λ ds. list_all is_ascii_digit ds ≡ true) (digits_value 10)
decimals = numerals_by_value (λ ds. list_all is_ascii_digit ds ≡ true) (search rules)

-- some decimal digits, but not too many, parse as the number that they write
pub number_parsed : {E : Type 0} (text : List ℕ) (r : Result ℕ E) → ParsesUnsigned 64 10 text r
    → 1 ≤ length text → length text ≤ 20
    → list_all is_ascii_digit text ≡ true → result_ok r ≡ number_of text
number_parsed {E} text (Ok n) parsed some few digits =
    let read = parse_digits decimals {E = E} 64 text (Ok n) parsed digits in
    grind (arith, nat_tests)
number_parsed {E} text (Err e) parsed some few digits =
    let unread = parse_digits decimals {E = E} 64 text (Err e) parsed digits in
    grind (arith, nat_tests)
