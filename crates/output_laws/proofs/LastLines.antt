-- The last line of the text of a search tells why it ended: it is known by the character before its newline, and where that is a digit by
-- the digits before it.
use Rattle.std.proofs.Common.{◌≡◌, ◌∙◌, ◌++◌, ◌+◌, ◌%◌, ◌^◌, ◌<◌, ◌≤◌, ℕ, Bool, cond, nat_le, List, [], ◌∷◌, length, reverse, drop, codes, Option, Some, refl, sym, ap, arith, le-leb}
use Rattle.std.specs.Fmt.{decimal}
use Rattle.std.proofs.lemmas.Fmt.{decimal_by_steps, decimal_injective}
use Rattle.std.proofs.lemmas.List.{append_assoc, reverse-append, reverse-reverse}
use Rattle.block_model.specs.Setting.{Setting, setting_of}
use Rattle.command_words.specs.declared.commands.SearchSettings.{SearchSettings}
use Rattle.draw_policies.specs.declared.outcome_keys.OutcomeKey.{OutcomeKey}
use Rattle.found_outcomes.specs.Complete.{IsComplete, IsCompleteWithin}
use Rattle.found_outcomes.specs.Search.{IsSearchOf}
use Rattle.found_outcomes.specs.declared.findings.Closing.{Closing}
use Rattle.found_outcomes.specs.declared.findings.Closing.TheVariants.{Complete, Within, Places, Deep, Memory}
use Rattle.found_outcomes.specs.declared.findings.Findings.{Findings}
use Rattle.place_text.specs.Ends.{number_line}
use Rattle.search_reductions.specs.declared.signals.Signals.{Signals}
use Rattle.search_text.specs.Text.{closing_line, findings_text, outcomes_text, places_text, printed}
use Rattle.outcomes.specs.Programs.{Files}
use Rattle.outcomes.specs.Searches.{IsSearchOutput}

abbrev second : List ℕ → ℕ
second [] = 0
second (a ∷ []) = 0
second (a ∷ b ∷ more) = b

-- the character before the last one
abbrev mark : List ℕ → ℕ
mark text = second (reverse text)

-- that of a text which ends in this line
marks : (before line : List ℕ) → mark (before ++ line) ≡ second (reverse line ++ reverse before)
marks before line = ap second (reverse-append before line)

-- the digits that come first, and all else that is no less
abbrev first_digits : List ℕ → List ℕ
first_digits [] = []
first_digits (c ∷ more) = cond (nat_le 48 c) (c ∷ first_digits more) []

one_more : (c : ℕ) (more : List ℕ) → 48 ≤ c → first_digits (c ∷ more) ≡ c ∷ first_digits more
one_more c more big = ap (λ (t : Bool). cond t (c ∷ first_digits more) []) (le-leb 48 c big)

-- read from its end on, a number begins with a digit, and its digits are those before the space
record IsSpelled (ds : List ℕ) : Type 0 where
  last : ℕ
  front : List ℕ
  turned : reverse ds ≡ last ∷ front
  digit : last < 58
  alone : (rest : List ℕ) → first_digits (reverse ds ++ 32 ∷ rest) ≡ reverse ds

one_digit : (n : ℕ) → n < 10 → IsSpelled ((48 + n) ∷ [])
one_digit n small = record { last = 48 + n; front = []; turned = refl; digit = omega arith; alone = λ rest. one_more (48 + n) (32 ∷ rest) (omega arith) }

next_digit : (n : ℕ) (ds : List ℕ) → 10 ≤ n → IsSpelled ds → IsSpelled (ds ++ (48 + n % 10) ∷ [])
next_digit n ds big before =
    let c : ℕ = 48 + n % 10 in
    let turned : reverse (ds ++ c ∷ []) ≡ c ∷ reverse ds = reverse-append ds (c ∷ []) in
    record {
      last = c;
      front = reverse ds;
      turned = turned;
      digit = omega arith;
      alone = λ rest. ap (λ (l : List ℕ). first_digits (l ++ 32 ∷ rest)) turned ∙ one_more c (reverse ds ++ 32 ∷ rest) (omega arith)
          ∙ ap (λ (l : List ℕ). c ∷ l) (before.alone rest) ∙ sym turned;
    }

spelled : (n : ℕ) → n < 2 ^ 64 → IsSpelled (decimal n)
spelled = decimal_by_steps (λ m ds. IsSpelled ds) one_digit next_digit

-- a text that ends in some words and a number, from its end on
turned_line : (front words : List ℕ) (n : ℕ) → reverse (front ++ number_line words n) ≡ 10 ∷ (reverse (decimal n) ++ 32 ∷ (reverse words ++ reverse front))
turned_line front words n =
    let ds = decimal n in
    let line : reverse (number_line words n) ≡ 10 ∷ ((reverse ds ++ 32 ∷ []) ++ reverse words) =
    reverse-append (words ++ 32 ∷ ds) (10 ∷ []) ∙ ap (λ (l : List ℕ). 10 ∷ l) (reverse-append words (32 ∷ ds) ∙ ap (λ (l : List ℕ). l ++ reverse words) (reverse-append (32 ∷ []) ds)) in
    reverse-append front (number_line words n) ∙ ap (λ (l : List ℕ). l ++ reverse front) line
    ∙ ap (λ (l : List ℕ). 10 ∷ l) (append_assoc (reverse ds ++ 32 ∷ []) (reverse words) (reverse front) ∙ append_assoc (reverse ds) (32 ∷ []) (reverse words ++ reverse front))

-- the character before the newline is a digit
digit_mark : (front words : List ℕ) (n : ℕ) → n < 2 ^ 64 → mark (front ++ number_line words n) < 58
digit_mark front words n small =
    let is = spelled n small in
    let last : mark (front ++ number_line words n) ≡ is.last =
    ap second (turned_line front words n ∙ ap (λ (l : List ℕ). 10 ∷ (l ++ 32 ∷ (reverse words ++ reverse front))) is.turned) in
    let digit = is.digit in
    omega arith

-- the number of the last line, from its end on
abbrev last_number : List ℕ → List ℕ
last_number text = first_digits (drop 1 (reverse text))

number_there : (front words : List ℕ) (n : ℕ) → n < 2 ^ 64 → last_number (front ++ number_line words n) ≡ reverse (decimal n)
number_there front words n small =
    ap (λ (l : List ℕ). first_digits (drop 1 l)) (turned_line front words n) ∙ (spelled n small).alone (reverse words ++ reverse front)

same_number : (front before words : List ℕ) (m n : ℕ) → m < 256 → n < 256 → front ++ number_line words m ≡ before ++ number_line words n → m ≡ n
same_number front before words m n small few is =
    let turned : reverse (decimal m) ≡ reverse (decimal n) =
    sym (number_there front words m (omega (arith, small))) ∙ ap last_number is ∙ number_there before words n (omega (arith, few)) in
    decimal_injective m n (omega (arith, small)) (omega (arith, few)) (sym (reverse-reverse (decimal m)) ∙ ap (λ (l : List ℕ). reverse l) turned ∙ reverse-reverse (decimal n))

-- the words before the number of preemptions
abbrev words : List ℕ
words = codes "complete preemptions"

-- no other text ends in the line `complete`
told : (closing : Closing) (front before : List ℕ) → ((q : ℕ) → closing ≡ Within q → q < 256) → front ++ closing_line closing ≡ before ++ closing_line Complete → closing ≡ Complete
told Complete front before small is = refl
told (Within q) front before small is =
    let few = small q refl in
    let low = digit_mark front words q (omega (arith, few)) in
    let high : mark (front ++ number_line words q) ≡ 101 = ap mark is ∙ marks before (closing_line Complete) in
    absurd (omega arith)
told Places front before small is =
    let no : 115 ≡ 101 = sym (marks front (closing_line Places)) ∙ ap mark is ∙ marks before (closing_line Complete) in absurd (omega (arith, no))
told Deep front before small is =
    let no : 112 ≡ 101 = sym (marks front (closing_line Deep)) ∙ ap mark is ∙ marks before (closing_line Complete) in absurd (omega (arith, no))
told Memory front before small is =
    let no : 121 ≡ 101 = sym (marks front (closing_line Memory)) ∙ ap mark is ∙ marks before (closing_line Complete) in absurd (omega (arith, no))

-- nor in a line with a number of preemptions
told_within : (closing : Closing) (front before : List ℕ) (p : ℕ) → p < 256 → ((q : ℕ) → closing ≡ Within q → q < 256) → front ++ closing_line closing ≡ before ++ number_line words p → closing ≡ Within p
told_within Complete front before p few small is =
    let low = digit_mark before words p (omega (arith, few)) in
    let high : 101 ≡ mark (before ++ number_line words p) = sym (marks front (closing_line Complete)) ∙ ap mark is in
    absurd (omega arith)
told_within (Within q) front before p few small is = ap Within (same_number front before words q p (small q refl) few is)
told_within Places front before p few small is =
    let low = digit_mark before words p (omega (arith, few)) in
    let high : 115 ≡ mark (before ++ number_line words p) = sym (marks front (closing_line Places)) ∙ ap mark is in
    absurd (omega arith)
told_within Deep front before p few small is =
    let low = digit_mark before words p (omega (arith, few)) in
    let high : 112 ≡ mark (before ++ number_line words p) = sym (marks front (closing_line Deep)) ∙ ap mark is in
    absurd (omega arith)
told_within Memory front before p few small is =
    let low = digit_mark before words p (omega (arith, few)) in
    let high : 121 ≡ mark (before ++ number_line words p) = sym (marks front (closing_line Memory)) ∙ ap mark is in
    absurd (omega arith)

-- what stands before the last line
abbrev before_last : OutcomeKey → Signals → Bool → Findings → List ℕ
before_last apart signals scripts found =
    (number_line (codes "outcomes") (length (printed apart found.outcomes.items)) ++ outcomes_text apart scripts 0 (printed apart found.outcomes.items)) ++ places_text signals scripts found

whole : (apart : OutcomeKey) (signals : Signals) (scripts : Bool) (found : Findings) → findings_text apart signals scripts found ≡ before_last apart signals scripts found ++ closing_line found.closing
unfolding findings_text
whole apart signals scripts found = refl

-- a number of preemptions is one of a byte
small_within : (s : Setting) (signals : Signals) (most : ℕ) (preemptions : Option ℕ) (found : Findings) → IsSearchOf s signals most preemptions found → (q : ℕ) → found.closing ≡ Within q → q < 256
small_within s signals most preemptions found search q is = (search.within q is).1

pub all_there : (files : Files) (program written before : List ℕ) (settings : SearchSettings)
    → (output : IsSearchOutput files program settings written) → written ≡ before ++ codes "complete\n"
    → IsComplete (setting_of output.image settings.limits) settings.signals output.found.outcomes.items
all_there files program written before settings output is =
    let found = output.found in
    let s = setting_of output.image settings.limits in
    let search = output.searched.search in
    search.complete
    (told found.closing (before_last settings.apart settings.signals settings.scripts found) before (small_within s settings.signals settings.places settings.preemptions found search)
    (sym (whole settings.apart settings.signals settings.scripts found) ∙ sym output.text ∙ is))

pub all_within : (files : Files) (program written before : List ℕ) (settings : SearchSettings) (p : ℕ)
    → (output : IsSearchOutput files program settings written) → p < 256 → written ≡ before ++ number_line (codes "complete preemptions") p
    → (settings.preemptions ≡ Some p) × IsCompleteWithin (setting_of output.image settings.limits) settings.signals p output.found.outcomes.items
all_within files program written before settings p output few is =
    let found = output.found in
    let s = setting_of output.image settings.limits in
    let search = output.searched.search in
    let within = search.within p
    (told_within found.closing (before_last settings.apart settings.signals settings.scripts found) before p few (small_within s settings.signals settings.places settings.preemptions found search)
    (sym (whole settings.apart settings.signals settings.scripts found) ∙ sym output.text ∙ is)) in
    (within.0, within.2)
