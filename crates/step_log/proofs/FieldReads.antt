-- Each field reads as what was printed, and as nothing else.
use Rattle.std.proofs.Common.{◌≡◌, ℕ, zero, suc, ◌+◌, ◌-◌, ◌/◌, ◌%◌, ◌^◌, ◌<◌, ◌≤◌, Bool, ◌&&◌, not, true, false, cond, ltb, leb, eqb, List, [], ◌∷◌, length, take, get_or, Option, Some, None, refl, sym, ap, ◌∙◌, arith, ◌⊎◌, inl, inr, lt-ltb, eq-eqb, eqb-true, ltb-true, add-one}
use Rattle.std.specs.Char.{digit_value, is_ascii_digit}
use Rattle.std.specs.Fmt.{decimal}
use Rattle.std.specs.List.{list_all}
use Rattle.std.specs.Prelude.{find}
use Rattle.std.specs.Str.{bytes_eq}
use Rattle.std.specs.Str.Parse.{digits_value}
use Rattle.std.proofs.lemmas.Bool.Decides.{nat_tests}
use Rattle.std.proofs.lemmas.Fmt.{digits_decimal, digits_value-decimal, decimal_nonempty, first_decimal, decimal_digit, decimal-digits_value}
use Rattle.std.proofs.lemmas.Int.Digits.{digits_value_push, digits_value_more, digits_value-lt}
use Rattle.std.proofs.lemmas.List.{take_all, take_more}
use Rattle.std.proofs.lemmas.List.Folds.{list_all-append}
use Rattle.std.proofs.lemmas.Slice.Eq.{bytes_eq-Decides}
use Rattle.std.proofs.Math.Nat.{pow-suc}
use Rattle.mach_types.specs.Events.{all_kinds}
use Rattle.mach_types.specs.declared.events.Hart.{Hart}
use Rattle.mach_types.specs.declared.events.Kind.{Kind}
use Rattle.mach_types.specs.declared.events.Kind.TheVariants.{Exec}
use Rattle.mach_types.specs.declared.events.Tid.{Tid}
use Rattle.step_log.proofs.Numbers.{both, decimals, hex_digits, hex_digit_value_small}
use Rattle.step_log.proofs.Printed.{length-hex_text, hex_text-none, hex_text-more}
use Rattle.step_log.specs.Script.{hart_read, kind_read, tid_read, pc_read, is_hex_digit, is_plain_decimal, has_leading_zero}
use Rattle.step_log.specs.Text.{hart_text, kind_word, hex_digit, hex_text}

-- options that a test gives
pub cond_yes : {A : Type 0} (b : Bool) (x y : A) → b ≡ true → cond b x y ≡ x
cond_yes true x y e = refl
cond_yes false x y e = cc

pub cond_some : {A : Type 0} (b : Bool) (x y : A) → cond b (Some x) None ≡ Some y → (b ≡ true) × (x ≡ y)
cond_some true x y e = (refl, cc)
cond_some false x y e = cc

pub cond_either : {A : Type 0} (b : Bool) (x y : A) (o : Option A) → cond b (Some x) o ≡ Some y → ((b ≡ true) × (x ≡ y)) ⊎ (o ≡ Some y)
cond_either true x y o e = inl (refl, cc)
cond_either false x y o e = inr e

pub both_yes : (a b : Bool) → a ≡ true → b ≡ true → (a && b) ≡ true
both_yes true b ea eb = eb
both_yes false b ea eb = cc

not_yes : (b : Bool) → b ≡ false → not b ≡ true
not_yes false e = refl
not_yes true e = cc

pub yes_not : (b : Bool) → not b ≡ true → b ≡ false
yes_not false e = refl
yes_not true e = cc

-- an element of a list of which all pass
pub each : (test : ℕ → Bool) (ds : List ℕ) (i : ℕ) → list_all test ds ≡ true → i < length ds → test (get_or ds i 0) ≡ true
each test [] i all within = absurd (omega arith)
each test (d ∷ ds) zero all within = (both (test d) (list_all test ds) all).0
each test (d ∷ ds) (suc i) all within = each test ds i ((both (test d) (list_all test ds) all).1) (omega arith)

-- harts
pub hart_read-text : (h : Hart) → h.0 < 8 → hart_read (hart_text h.0) ≡ Some h
hart_read-text h small =
    let test : (leb 48 (48 + h.0) && ltb (48 + h.0) 56) ≡ true = grind (arith, nat_tests) in
    let back : 48 + h.0 - 48 ≡ h.0 = omega arith in
    let hart : ℕ → Hart = λ n. record { 0 = n } in
    cond_yes (leb 48 (48 + h.0) && ltb (48 + h.0) 56) (Some (hart (48 + h.0 - 48))) None test ∙ ap (λ n. Some (hart n)) back

digit_hart : (digit : ℕ) (h : Hart) → leb 48 digit ≡ true → ltb digit 56 ≡ true → digit - 48 ≡ h.0 → (h.0 < 8) × (digit ≡ 48 + h.0)
digit_hart digit h low high is = (grind (arith, nat_tests), grind (arith, nat_tests))

pub hart_read-only : (field : List ℕ) (h : Hart) → hart_read field ≡ Some h → (h.0 < 8) × (field ≡ hart_text h.0)
hart_read-only [] h e = cc
hart_read-only (digit ∷ []) h e =
    let found = cond_some (leb 48 digit && ltb digit 56) (record { 0 = digit - 48 }) h e in
    let tests = both (leb 48 digit) (ltb digit 56) found.0 in
    let same = digit_hart digit h tests.0 tests.1 (ap (λ (x : Hart). x.0) found.1) in
    (same.0, ap (λ n. n ∷ []) same.1)
hart_read-only (digit ∷ next ∷ more) h e = cc

-- kinds
pub kind_read-word : (k : Kind) → kind_read (kind_word k) ≡ Some k
kind_read-word Exec = refl
kind_read-word other = refl

tried : (field : List ℕ) (k' k : Kind) (o : Option Kind) → cond (bytes_eq field (kind_word k')) (Some k') o ≡ Some k
    → (o ≡ Some k → field ≡ kind_word k) → field ≡ kind_word k
tried field k' k o e otherwise =
    elim (cond_either (bytes_eq field (kind_word k')) k' k o e) [
      | inl w ↦ (bytes_eq-Decides field (kind_word k')).0 w.0 ∙ ap kind_word w.1
      | inr w ↦ otherwise w
    ]

among : (field : List ℕ) (k : Kind) (kinds : List Kind) → find (λ k'. bytes_eq field (kind_word k')) kinds ≡ Some k → field ≡ kind_word k
among field k [] e = cc
among field k (k' ∷ kinds) e = tried field k' k (find (λ k'. bytes_eq field (kind_word k')) kinds) e (among field k kinds)

pub kind_read-only : (field : List ℕ) (k : Kind) → kind_read field ≡ Some k → field ≡ kind_word k
kind_read-only field k e = among field k all_kinds e

-- threads
long_zero : (text : List ℕ) → length text ≡ 1 → has_leading_zero text ≡ false
long_zero text one = grind (arith, nat_tests)

first_zero : (text : List ℕ) → 48 < get_or text 0 0 → has_leading_zero text ≡ false
first_zero text first = grind (arith, nat_tests)

no_leading_zero : (n : ℕ) → n < 2 ^ 32 → has_leading_zero (decimal n) ≡ false
no_leading_zero zero small = long_zero (decimal 0) (ap length (decimal_digit 0 (omega arith)))
no_leading_zero (suc n) small = first_zero (decimal (suc n)) (first_decimal (suc n) (omega arith) (omega arith))

pub decimal_digits : (n : ℕ) → n < 2 ^ 32 → list_all is_ascii_digit (decimal n) ≡ true
decimal_digits n small = digits_decimal decimals n (omega arith)

plain : (n : ℕ) → n < 2 ^ 32 → is_plain_decimal (decimal n) ≡ true
plain n small =
    let some : ltb 0 (length (decimal n)) ≡ true = lt-ltb 0 (length (decimal n)) (decimal_nonempty n (omega arith)) in
    both_yes (ltb 0 (length (decimal n)) && list_all is_ascii_digit (decimal n)) (not (has_leading_zero (decimal n)))
    (both_yes (ltb 0 (length (decimal n))) (list_all is_ascii_digit (decimal n)) some (decimal_digits n small))
    (not_yes (has_leading_zero (decimal n)) (no_leading_zero n small))

pub tid_read-decimal : (t : Tid) → t.0 < 2 ^ 32 → tid_read (decimal t.0) ≡ Some t
tid_read-decimal t small =
    let value : digits_value 10 (decimal t.0) ≡ t.0 = digits_value-decimal decimals t.0 (omega arith) in
    let test : ltb (digits_value 10 (decimal t.0)) (2 ^ 32) ≡ true = lt-ltb (digits_value 10 (decimal t.0)) (2 ^ 32) (omega arith) in
    let thread : ℕ → Tid = λ n. record { 0 = n } in
    cond_yes (is_plain_decimal (decimal t.0) && ltb (digits_value 10 (decimal t.0)) (2 ^ 32)) (Some (thread (digits_value 10 (decimal t.0)))) None
    (both_yes (is_plain_decimal (decimal t.0)) (ltb (digits_value 10 (decimal t.0)) (2 ^ 32)) (plain t.0 small) test)
    ∙ ap (λ n. Some (thread n)) value

zero_alone : (text : List ℕ) → has_leading_zero text ≡ false → 0 < length text → get_or text 0 0 ≡ 48 → length text ≡ 1
zero_alone text single some first = grind (arith, nat_tests)

pub tid_read-only : (field : List ℕ) (t : Tid) → tid_read field ≡ Some t → (t.0 < 2 ^ 32) × (field ≡ decimal t.0)
tid_read-only field t e =
    let found = cond_some (is_plain_decimal field && ltb (digits_value 10 field) (2 ^ 32)) (record { 0 = digits_value 10 field }) t e in
    let tests = both (is_plain_decimal field) (ltb (digits_value 10 field) (2 ^ 32)) found.0 in
    let parts = both (ltb 0 (length field) && list_all is_ascii_digit field) (not (has_leading_zero field)) tests.0 in
    let digits = both (ltb 0 (length field)) (list_all is_ascii_digit field) parts.0 in
    let value = ap (λ (x : Tid). x.0) found.1 in
    let some : 0 < length field = ltb-true 0 (length field) digits.0 in
    let small : digits_value 10 field < 2 ^ 32 = ltb-true (digits_value 10 field) (2 ^ 32) tests.1 in
    let alone = zero_alone field (yes_not (has_leading_zero field) parts.1) some in
    (omega arith, sym (decimal-digits_value decimals field digits.1 some alone (omega arith)) ∙ ap decimal value)

-- pcs
hex_digit_is : (d : ℕ) → d < 16 → is_hex_digit (hex_digit d) ≡ true
hex_digit_is d small = grind (arith, nat_tests)

digit_value-hex_digit : (d : ℕ) → d < 16 → digit_value (hex_digit d) ≡ d
digit_value-hex_digit d small = grind (arith, nat_tests)

hex_digit-digit_value : (c : ℕ) → is_hex_digit c ≡ true → hex_digit (digit_value c) ≡ c
hex_digit-digit_value c digit = grind (arith, nat_tests)

pub hex_text_digits : (places n : ℕ) → list_all is_hex_digit (hex_text places n) ≡ true
unfolding hex_text
hex_text_digits zero n = refl
hex_text_digits (suc places) n =
    list_all-append is_hex_digit (hex_text places (n / 16)) (hex_digit (n % 16) ∷ [])
    ∙ both_yes (list_all is_hex_digit (hex_text places (n / 16))) (is_hex_digit (hex_digit (n % 16)) && true) (hex_text_digits places (n / 16))
    (both_yes (is_hex_digit (hex_digit (n % 16))) true (hex_digit_is (n % 16) (omega arith)) refl)

pub digits_value-hex_text : (places n : ℕ) → n < 16 ^ places → digits_value 16 (hex_text places n) ≡ n
unfolding hex_text
digits_value-hex_text zero n small = omega arith
digits_value-hex_text (suc places) n small =
    let power = pow-suc 16 places in
    let front : digits_value 16 (hex_text places (n / 16)) ≡ n / 16 = digits_value-hex_text places (n / 16) (omega arith) in
    let last = digit_value-hex_digit (n % 16) (omega arith) in
    digits_value_push 16 (hex_text places (n / 16)) (hex_digit (n % 16)) ∙ omega arith

pub pc_read-hex_text : (pc : ℕ) → pc < 2 ^ 64 → pc_read (hex_text 16 pc) ≡ Some pc
pc_read-hex_text pc small =
    cond_yes (eqb (length (hex_text 16 pc)) 16 && list_all is_hex_digit (hex_text 16 pc)) (Some (digits_value 16 (hex_text 16 pc))) None
    (both_yes (eqb (length (hex_text 16 pc)) 16) (list_all is_hex_digit (hex_text 16 pc)) (eq-eqb (length (hex_text 16 pc)) 16 (length-hex_text 16 pc))
    (hex_text_digits 16 pc))
    ∙ ap (λ n. Some n) (digits_value-hex_text 16 pc (omega arith))

hex_text_more : (ds : List ℕ) (n : ℕ) → list_all is_hex_digit ds ≡ true → n < length ds → hex_text n (digits_value 16 (take n ds)) ≡ take n ds
    → hex_text (n + 1) (digits_value 16 (take (n + 1) ds)) ≡ take (n + 1) ds
hex_text_more ds n all within front =
    let digit = each is_hex_digit ds n all within in
    let small = hex_digit_value_small (get_or ds n 0) digit in
    let more = digits_value_more 16 ds n within in
    let high : digits_value 16 (take (n + 1) ds) / 16 ≡ digits_value 16 (take n ds) = omega arith in
    let low : digits_value 16 (take (n + 1) ds) % 16 ≡ digit_value (get_or ds n 0) = omega arith in
    let back = hex_digit-digit_value (get_or ds n 0) digit in
    let longer = take_more ds n 0 within in
    let text = hex_text-more n (digits_value 16 (take (n + 1) ds)) in
    cc

hex_text-take : (ds : List ℕ) (n : ℕ) → list_all is_hex_digit ds ≡ true → n ≤ length ds → hex_text n (digits_value 16 (take n ds)) ≡ take n ds
hex_text-take ds zero all within = hex_text-none 0
hex_text-take ds (suc n) all within =
    rw add-one at (hex_text_more ds n all within (hex_text-take ds n all (omega arith)))

pub pc_read-only : (field : List ℕ) (pc : ℕ) → pc_read field ≡ Some pc → (pc < 2 ^ 64) × (field ≡ hex_text 16 pc)
pc_read-only field pc e =
    let found = cond_some (eqb (length field) 16 && list_all is_hex_digit field) (digits_value 16 field) pc e in
    let tests = both (eqb (length field) 16) (list_all is_hex_digit field) found.0 in
    let long : length field ≡ 16 = eqb-true (length field) 16 tests.0 in
    let bound : digits_value 16 field < 16 ^ 16 = rw long at (digits_value-lt 16 field (hex_digits field tests.1)) in
    let whole = take_all 16 field (omega arith) in
    let text = hex_text-take field 16 tests.1 (omega arith) in
    (omega arith, cc)

-- a digit that was read is one, and this is its value
pub digit_read : (c d : ℕ) → Some d ≡ cond (is_hex_digit c) (Some (digit_value c)) None → (is_hex_digit c ≡ true) × (digit_value c ≡ d)
digit_read c d e = cond_some (is_hex_digit c) (digit_value c) d (sym e)
