-- Spans that a text writes.
use Rattle.std.proofs.Common.{◌≡◌, ℕ, ◌+◌, ◌^◌, ◌<◌, ◌≤◌, suc, Bool, true, false, cond, List, [], ◌∷◌, ◌++◌, length, Option, Some, None, nat_le, refl, sym, ap, arith}
use Rattle.std.specs.Bool.{MatchBool}
use Rattle.std.specs.List.{All, AllWithin, HoldsAt, before_first, flat_map, list_all}
use Rattle.std.specs.Option.{option_to_list}
use Rattle.std.proofs.lemmas.Bool.Decides.{nat_tests}
use Rattle.std.proofs.lemmas.List.Elements.{All-cons, All-nil}
use Rattle.std.proofs.lemmas.List.Folds.{list_all_at}
use Rattle.step_log.specs.Script.{◌>>=◌}
use Rattle.command_words.specs.Decimals.{number_in, range_of}
use Rattle.command_words.specs.Spans.{address_of, behind_colon, is_colon, span_from, span_of, spans_given, parts_of}
use Rattle.command_words.specs.declared.spans.MemorySpan.{MemorySpan}

-- what was found over a list: all its items pass, or one doesn't
all_pass : (p : List ℕ → Bool) (xs : List (List ℕ)) → AllWithin (λ x. p x ≡ true) xs 0 (length xs) → list_all p xs ≡ true
all_pass p [] all = refl
all_pass p (x ∷ xs) all =
    let here : p x ≡ true = all 0 x (omega arith) (omega arith) in
    rw here (all_pass p xs (λ k d low lt. all (suc k) d (omega arith) (omega arith)))

pub test_of_all : (p : List ℕ → Bool) (xs : List (List ℕ)) (r : Bool)
    → MatchBool r (AllWithin (λ x. p x ≡ true) xs 0 (length xs)) ((k : ℕ) × (k < length xs) × HoldsAt (λ x. p x ≡ false) xs k)
    → r ≡ list_all p xs
test_of_all p xs true all = sym (all_pass p xs all)
test_of_all p xs false one = sym (list_all_at p xs one.0 [] one.1 (one.2 []))

-- what comes of a step that was taken
taken : {A B : Type 0} (o : Option A) (f : A → Option B) (x : B) → (o >>= f) ≡ Some x → (a : A) × (f a ≡ Some x)
taken None f x is = absurd (cc is)
taken (Some a) f x is = (a, is)

-- a span ends at the end of addresses or before it
abbrev pub EndsInTime : MemorySpan → Type 0
EndsInTime span = span.at + span.length ≤ 2 ^ 64

from_ends : (at count : ℕ) (span : MemorySpan) → span_from at count ≡ Some span → EndsInTime span
from_ends at count span is = by_test (nat_le (at + count) (2 ^ 64)) refl is
  where
    by_test : (b : Bool) → nat_le (at + count) (2 ^ 64) ≡ b
        → cond b (Some (record { at = at; length = count })) None ≡ Some span → EndsInTime span
    by_test false test made = absurd (cc made)
    by_test true test made =
        let same : record { at = at; length = count } ≡ span = cc made in
        let first : at ≡ span.at = ap (λ (s : MemorySpan). s.at) same in
        let long : count ≡ span.length = ap (λ (s : MemorySpan). s.length) same in
        let most : at + count ≤ 2 ^ 64 = grind (arith, nat_tests) in
        omega arith

span_ends : (text : List ℕ) (span : MemorySpan) → span_of text ≡ Some span → EndsInTime span
span_ends text span is =
    let behind = taken (behind_colon text) _ span is in
    let at = taken (address_of (before_first is_colon text)) _ span behind.1 in
    let count = taken (number_in (range_of 1 65536) behind.0) _ span at.1 in
    from_ends at.0 count.0 span count.1

-- and so do all that parts write
abbrev one_of : List ℕ → List MemorySpan
one_of part = option_to_list (span_of part)

one_ends : (part : List ℕ) (rest : List MemorySpan) → All EndsInTime rest → All EndsInTime (one_of part ++ rest)
one_ends part rest all = by_span (span_of part) refl
  where
    by_span : (o : Option MemorySpan) → span_of part ≡ o → All EndsInTime (option_to_list o ++ rest)
    by_span None is = all
    by_span (Some span) is = All-cons EndsInTime span rest (span_ends part span is) all

all_end : (parts : List (List ℕ)) → All EndsInTime (flat_map one_of parts)
all_end [] = All-nil EndsInTime
all_end (part ∷ parts) = one_ends part (flat_map one_of parts) (all_end parts)

pub given_end : (text : Option (List ℕ)) → All EndsInTime (spans_given text)
given_end None = All-nil EndsInTime
given_end (Some text) = all_end (parts_of text)
