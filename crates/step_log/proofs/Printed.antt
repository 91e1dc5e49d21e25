-- How long the parts of a printed line are, and how numbers end.
use Rattle.std.proofs.Common.{◌≡◌, ℕ, ◌+◌, ◌-◌, ◌/◌, ◌%◌, ◌^◌, ◌<◌, ◌≤◌, List, [], ◌∷◌, ◌++◌, length, zero, suc, refl, ap, ◌∙◌, arith, lit≤, length-append, append_assoc, add-one}
use Rattle.std.specs.Fmt.{decimal}
use Rattle.std.proofs.lemmas.Fmt.{decimal_step, decimal_digit, length-decimal-le}
use Rattle.std.proofs.Math.Nat.{mod-eq_of_lt}
use Rattle.mach_types.specs.declared.events.Kind.{Kind}
use Rattle.mach_types.specs.declared.events.Kind.TheVariants.{Exec}
use Rattle.step_log.specs.Text.{kind_word, hex_digit, hex_text}

pub length-kind_word-le : (k : Kind) → length (kind_word k) ≤ 7
length-kind_word-le Exec = lit≤ tt
length-kind_word-le other = lit≤ tt

-- one decimal digit more
pub length-decimal_step : (n : ℕ) → 10 ≤ n → n < 2 ^ 64 → length (decimal n) ≡ length (decimal (n / 10)) + 1
length-decimal_step n big small =
    ap length (decimal_step n big small) ∙ length-append (decimal (n / 10)) ((48 + n % 10) ∷ [])

pub length-decimal_32 : (n : ℕ) → n < 2 ^ 32 → length (decimal n) ≤ 10
length-decimal_32 n small = length-decimal-le 10 n (omega arith) (omega arith) (omega arith)

pub length-hex_text : (places n : ℕ) → length (hex_text places n) ≡ places
unfolding hex_text
length-hex_text zero n = refl
length-hex_text (suc places) n =
    length-append (hex_text places (n / 16)) (hex_digit (n % 16) ∷ []) ∙ omega (arith, length-hex_text places (n / 16))

pub hex_text-none : (n : ℕ) → hex_text 0 n ≡ []
unfolding hex_text
hex_text-none n = refl

-- one place more
pub hex_text-more : (places n : ℕ) → hex_text (places + 1) n ≡ hex_text places (n / 16) ++ hex_digit (n % 16) ∷ []
unfolding hex_text
hex_text-more places n = rw (add-one places) refl

-- what stands after the higher digits and then the last digit
pub decimal_many : (start line new : List ℕ) (n : ℕ) → 10 ≤ n → n < 2 ^ 32 → line ≡ start ++ decimal (n / 10)
    → new ≡ line ++ (48 + n % 10) ∷ [] → new ≡ start ++ decimal n
decimal_many start line new n big small before after =
    let digits = decimal_step n big (omega arith) in
    let regroup = append_assoc start (decimal (n / 10)) ((48 + n % 10) ∷ []) in
    cc

pub decimal_one : (start line new : List ℕ) (n : ℕ) → n < 10 → line ≡ start → new ≡ line ++ (48 + n % 10) ∷ [] → new ≡ start ++ decimal n
decimal_one start line new n small before after =
    let same : n % 10 ≡ n = mod-eq_of_lt small in
    let digit = decimal_digit n small in
    cc
