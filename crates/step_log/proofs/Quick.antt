-- The quick way to read the line of an `exec`.
use Rattle.std.proofs.Common.{◌≡◌, ℕ, zero, suc, ◌+◌, ◌-◌, ◌*◌, ◌^◌, ◌<◌, ◌≤◌, Bool, true, false, cond, List, [], ◌∷◌, ◌++◌, length, take, drop, get_or, Option, Some, None, refl, sym, ap, ◌∙◌, arith, append_assoc, drop-cons, add-one, length-append, length-take, length-drop}
use Rattle.std.specs.Char.{digit_value}
use Rattle.std.specs.List.{list_all}
use Rattle.std.specs.Str.Parse.{digits_value}
use Rattle.std.proofs.lemmas.List.{take-append-drop, take_more, take_all}
use Rattle.std.proofs.lemmas.List.Folds.{list_all_more}
use Rattle.std.proofs.lemmas.Int.Digits.{digits_value_more, digits_value-lt}
use Rattle.std.proofs.Math.Nat.{pow-le-pow_right}
use Rattle.step_log.proofs.Numbers.{hex_digits, hex_digit_value_small}
use Rattle.step_log.proofs.FieldReads.{both_yes}
use Rattle.step_log.proofs.FieldReads.{pc_read-only}
use Rattle.step_log.proofs.HexDigits.{elements_first}
use Rattle.step_log.proofs.Texts.{entry_is_first, entry_is_read}
use Rattle.step_log.specs.Grammar.{IsPrintable}
use Rattle.step_log.specs.Parts.{IsFirst}
use Rattle.step_log.specs.Script.{is_hex_digit, lines_of, pc_read, whole_line}
use Rattle.step_log.specs.Text.{entry_line}
use Rattle.mach_types.specs.declared.events.Entry.{Entry}
use Rattle.mach_types.specs.declared.events.Hart.{Hart}
use Rattle.mach_types.specs.declared.events.Kind.TheVariants.{Exec}
use Rattle.mach_types.specs.declared.events.Tid.{Tid}
use Rattle.std.proofs.lemmas.Fmt.{decimal_digit}

-- the digits so far are digits, and this is what they write
pub record IsReadTo (digits : List ℕ) (i number : ℕ) : Type 0 where
  pub value : number ≡ digits_value 16 (take i digits)
  pub all : list_all is_hex_digit (take i digits) ≡ true

more_digits : (digits : List ℕ) (i : ℕ) → list_all is_hex_digit (take i digits) ≡ true → i < length digits → is_hex_digit (get_or digits i 0) ≡ true
    → list_all is_hex_digit (take (i + 1) digits) ≡ true
more_digits digits i all within digit =
    list_all_more is_hex_digit digits i 0 within ∙ both_yes (list_all is_hex_digit (take i digits)) (is_hex_digit (get_or digits i 0)) all digit

pub read_more : (digits : List ℕ) (i number : ℕ) → IsReadTo digits i number → i < length digits → is_hex_digit (get_or digits i 0) ≡ true
    → IsReadTo digits (i + 1) (number * 16 + digit_value (get_or digits i 0))
read_more digits i number so_far within digit =
    let more = digits_value_more 16 digits i within in
    record {
      value = sym (rw (← so_far.value) at more);
      all = more_digits digits i so_far.all within digit;
    }

-- what fewer than 16 digits write
pub read_bound : (digits : List ℕ) (i number : ℕ) → IsReadTo digits i number → length digits ≤ 16 → i < length digits → number < 2 ^ 60
read_bound digits i number so_far long within =
    let front : length (take i digits) ≤ 15 = omega (arith, length-take i digits) in
    let small : digits_value 16 (take i digits) < 16 ^ length (take i digits) = digits_value-lt 16 (take i digits) (hex_digits (take i digits) so_far.all) in
    let most : 16 ^ length (take i digits) ≤ 16 ^ 15 = pow-le-pow_right (omega arith) front in
    let value = so_far.value in
    omega arith

pub read_fits : (digits : List ℕ) (i number : ℕ) → IsReadTo digits i number → length digits ≤ 16 → i < length digits
    → is_hex_digit (get_or digits i 0) ≡ true → number * 16 + digit_value (get_or digits i 0) < 2 ^ 64
read_fits digits i number so_far long within digit =
    let bound = read_bound digits i number so_far long within in
    let low = hex_digit_value_small (get_or digits i 0) digit in
    omega arith

-- a text that begins as the line of an `exec` is read as that
exec_read : (hart : Hart) (tid : Tid) (pc : ℕ) (text digits behind : List ℕ) → hart.0 < 8 → tid.0 < 10 → pc_read digits ≡ Some pc
    → text ≡ (48 + hart.0) ∷ 32 ∷ 101 ∷ 120 ∷ 101 ∷ 99 ∷ 32 ∷ (48 + tid.0) ∷ 32 ∷ (digits ++ 10 ∷ behind)
    → IsFirst text (whole_line (record { hart = hart; kind = Exec; tid = tid; pc = pc })) behind
exec_read hart tid pc text digits behind small digit number is =
    let read = pc_read-only digits pc number in
    let e : Entry = record { hart = hart; kind = Exec; tid = tid; pc = pc } in
    let fits : IsPrintable e = record { hart = small; thread = omega arith; pc = read.0 } in
    let line : entry_line e ≡ (48 + hart.0) ∷ 32 ∷ 101 ∷ 120 ∷ 101 ∷ 99 ∷ 32 ∷ (48 + tid.0) ∷ 32 ∷ digits = rw (decimal_digit tid.0 digit, read.1) refl in
    let whole : text ≡ entry_line e ++ 10 ∷ behind = is ∙ ap (λ (xs : List ℕ). xs ++ 10 ∷ behind) (sym line) in
    let longer = ap length whole ∙ length-append (entry_line e) (10 ∷ behind) in
    record {
      first = entry_line e;
      lines = ap lines_of whole ∙ entry_is_first e behind fits;
      says = entry_is_read e fits;
      shorter = omega (arith, longer);
    }

-- its first nine bytes
pub record BeginsExec (text : List ℕ) : Type 0 where
  pub hart_low : 48 ≤ get_or text 0 0
  pub hart_high : get_or text 0 0 < 56
  pub after_hart : get_or text 1 0 ≡ 32
  pub word_0 : get_or text 2 0 ≡ 101
  pub word_1 : get_or text 3 0 ≡ 120
  pub word_2 : get_or text 4 0 ≡ 101
  pub word_3 : get_or text 5 0 ≡ 99
  pub after_word : get_or text 6 0 ≡ 32
  pub tid_low : 48 ≤ get_or text 7 0
  pub tid_high : get_or text 7 0 < 58
  pub after_tid : get_or text 8 0 ≡ 32

nine : (text : List ℕ) → 9 ≤ length text → BeginsExec text
    → text ≡ get_or text 0 0 ∷ 32 ∷ 101 ∷ 120 ∷ 101 ∷ 99 ∷ 32 ∷ get_or text 7 0 ∷ 32 ∷ drop 9 text
nine text long begins =
    let apart = sym (elements_first 9 0 text long) in
    rw (begins.after_hart, begins.word_0, begins.word_1, begins.word_2, begins.word_3, begins.after_word, begins.after_tid) at apart

seventeen : (rest : List ℕ) → 16 < length rest → get_or rest 16 0 ≡ 10 → rest ≡ take 16 rest ++ 10 ∷ drop 17 rest
seventeen rest long ends =
    let cut = drop-cons rest 16 0 long in
    sym (take-append-drop 16 rest) ∙ ap (λ (xs : List ℕ). take 16 rest ++ xs) (rw ends at cut)

pub first_is_read : (text rest behind : List ℕ) (tid pc : ℕ) → 9 ≤ length text → BeginsExec text → rest ≡ take (length text - 9) (drop 9 text)
    → behind ≡ take (length rest - 17) (drop 17 rest) → tid ≡ get_or text 7 0 - 48 → 16 < length rest → get_or rest 16 0 ≡ 10 → pc_read (take 16 rest) ≡ Some pc
    → IsFirst text (whole_line (record { hart = record { 0 = get_or text 0 0 - 48 }; kind = Exec; tid = record { 0 = tid }; pc = pc })) behind
first_is_read text rest behind tid pc long begins is is_behind is_tid more ends number =
    let all : rest ≡ drop 9 text = is ∙ take_all (length text - 9) (drop 9 text) (omega (arith, length-drop 9 text)) in
    let past : behind ≡ drop 17 rest = is_behind ∙ take_all (length rest - 17) (drop 17 rest) (omega (arith, length-drop 17 rest)) in
    let parts = seventeen rest more ends in
    let low = begins.hart_low in
    let high = begins.hart_high in
    let tid_low = begins.tid_low in
    let tid_high = begins.tid_high in
    let h : get_or text 0 0 ≡ 48 + (get_or text 0 0 - 48) = omega arith in
    let t : get_or text 7 0 ≡ 48 + tid = omega arith in
    let front = nine text long begins in
    exec_read (record { 0 = get_or text 0 0 - 48 }) (record { 0 = tid }) pc text (take 16 rest) behind (omega arith) (omega arith) number
    (front ∙ cc)
