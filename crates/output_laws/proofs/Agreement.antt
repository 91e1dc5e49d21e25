-- Two calls that ask for the same of the same files answer one status and write one text, unless memory ran out in one of them.
use Rattle.std.proofs.Common.{◌≡◌, ◌∙◌, ℕ, ◌⊎◌, inl, inr, List, Option, Some, refl, sym, ap, subst}
use Rattle.outside.specs.Told.{Gained}
use Rattle.command_words.specs.Words.{command_of}
use Rattle.call_reasons.specs.declared.faults.Fault.TheVariants.{Big, Elf, Guest, Memory, Script, Usage}
use Rattle.outcomes.specs.Needs.{needs_in}
use Rattle.outcomes.specs.Outcome.{Call, IsOutcome, IsStatus, NoneFailed, WroteText}
use Rattle.call_reasons.specs.FaultLines.{fault_line}
use Rattle.output_laws.specs.Agreement.{AreAlike, HasOneOutput, IsAllTold, IsOneStatus, WroteOneText}
use Rattle.output_laws.proofs.Judgements.{judged_output, never_both, one_unmet}
use Rattle.output_laws.proofs.OneOutput.{one_output}
use Rattle.output_laws.proofs.ToldCauses.{bad_line_told, big_file_told, faulty_told, good_told, one_line, one_refusal, one_size}

-- the second call, with the words and files of the first
abbrev with_words : Call → Call → Call
with_words a b = record b { words = a.words; files = a.files }

same_call : (a b : Call) → b.words ≡ a.words → b.files ≡ a.files → b ≡ with_words a b
same_call a b words files = λ i. record b { words = words i; files = files i }

-- one status comes, or 7
settled : (status other n : ℕ) → status ≡ n → (other ≡ n) ⊎ (other ≡ 7) → IsOneStatus status other
settled status other n is (inl same) = inl (is ∙ sym same)
settled status other n is (inr short) = inr (inr short)

module _ (a b : Call) (status other : ℕ) (told : IsAllTold a.files (needs_in a.words)) (first : NoneFailed a)
    (second : NoneFailed (with_words a b)) (one : IsOutcome a status) (two : IsOutcome (with_words a b) other) where
  by_usage : (other ≡ 2) ⊎ (other ≡ 6) → (other ≡ 2) ⊎ (other ≡ 7)
  by_usage (inl two_is) = inl two_is
  by_usage (inr six) = absurd (second.1 (two.write six).0)

  -- of outputs: both are as expected, or both otherwise
  by_met : status ≡ 0 → (other ≡ 0) ⊎ (other ≡ 1) ⊎ (other ≡ 7) → IsOneStatus status other
  by_met is (inl same) = inl (is ∙ sym same)
  by_met is (inr (inl unlike)) =
      let x = one.met is in
      let y = two.unmet unlike in
      absurd (never_both a.files (command_of a.words) x.0 y.0 told x.1 y.1)
  by_met is (inr (inr short)) = inr (inr short)

  by_unmet : status ≡ 1 → (other ≡ 0) ⊎ (other ≡ 1) ⊎ (other ≡ 7) → IsOneStatus status other
  by_unmet is (inl unlike) =
      let x = one.unmet is in
      let y = two.met unlike in
      absurd (never_both a.files (command_of a.words) y.0 x.0 told y.1 x.1)
  by_unmet is (inr (inl same)) = inl (is ∙ sym same)
  by_unmet is (inr (inr short)) = inr (inr short)

  by_status : IsStatus status → IsOneStatus status other
  by_status (inl is) =
      by_met is (two.complete (good_told a.files (command_of a.words) (one.done is).0 told (one.done is).1) second)
  by_status (inr (inl is)) =
      let x = one.unmet is in
      let output = judged_output a.files (command_of a.words) (Some x.1.0) x.0 x.1.1 in
      by_unmet is (two.complete (good_told a.files (command_of a.words) x.0 told output) second)
  by_status (inr (inr (inl is))) = settled status other 2 is (by_usage (two.usage_always (one.usage is).0))
  by_status (inr (inr (inr (inl is)))) =
      let line = (one.elf is).1 in
      settled status other 3 is
      (two.elf_always (faulty_told a.files (needs_in a.words) line.fault told line.refused) second)
  by_status (inr (inr (inr (inr (inl is))))) =
      let line = (one.script is).1 in
      settled status other 4 is
      (two.script_always (bad_line_told a.files (needs_in a.words) line.number told line.refused) second)
  by_status (inr (inr (inr (inr (inr (inl is)))))) = absurd (first.0 (one.read is).0)
  by_status (inr (inr (inr (inr (inr (inr (inl is))))))) = absurd (first.1 (one.write is).0)
  by_status (inr (inr (inr (inr (inr (inr (inr (inl is)))))))) = inr (inl is)
  by_status (inr (inr (inr (inr (inr (inr (inr (inr (inl is))))))))) =
      settled status other 8 is
      (two.big_always (big_file_told a.files (needs_in a.words) told (one.big is).0) second)
  by_status (inr (inr (inr (inr (inr (inr (inr (inr (inr is))))))))) =
      let line = (one.guest is).1 in
      settled status other 9 is (two.guest_always line.number line.outside second)

-- a text that two sinks gained
gained_so : (old new : Option (List ℕ)) (text written : List ℕ) → written ≡ text → Gained old new written → Gained old new text
gained_so old new text written same gained = subst (λ (t : List ℕ). Gained old new t) same gained

module _ (a b : Call) (status : ℕ) (told : IsAllTold a.files (needs_in a.words)) (first : NoneFailed a)
    (one : IsOutcome a status) (two : IsOutcome (with_words a b) status) (output : status ≡ 0 → HasOneOutput a) where
  -- these texts were written, and are one
  both : (text other : List ℕ) → other ≡ text → WroteText a text → WroteText (with_words a b) other
      → WroteOneText a (with_words a b)
  both text other same wrote beside =
      record { text = text; first = wrote; second = gained_so b.held b.held_after text other same beside }

  by_one : IsStatus status → WroteOneText a (with_words a b)
  by_one (inl is) =
      let x = one.done is in
      let y = two.done is in
      both x.0 y.0
      (one_output a.files (command_of a.words) y.0 x.0 (output is).quiet (output is).told y.1 x.1) x.2 y.2
  by_one (inr (inl is)) =
      let x = one.unmet is in
      let y = two.unmet is in
      both x.0 y.0 (one_unmet a.files (command_of a.words) y.0 x.0 told y.1 x.1) x.2 y.2
  by_one (inr (inr (inl is))) = both (fault_line Usage) (fault_line Usage) refl (one.usage is).1 (two.usage is).1
  by_one (inr (inr (inr (inl is)))) =
      let x = one.elf is in
      let y = two.elf is in
      both x.0 y.0
      (y.1.line ∙ ap (λ fault. fault_line (Elf fault))
      (one_refusal a.files (needs_in a.words) y.1.fault x.1.fault told y.1.refused x.1.refused) ∙ sym x.1.line) x.2 y.2
  by_one (inr (inr (inr (inr (inl is))))) =
      let x = one.script is in
      let y = two.script is in
      both x.0 y.0
      (y.1.line ∙ ap (λ number. fault_line (Script number))
      (one_line a.files (needs_in a.words) y.1.number x.1.number told y.1.refused x.1.refused) ∙ sym x.1.line) x.2 y.2
  by_one (inr (inr (inr (inr (inr (inl is)))))) = absurd (first.0 (one.read is).0)
  by_one (inr (inr (inr (inr (inr (inr (inl is))))))) = absurd (first.1 (one.write is).0)
  by_one (inr (inr (inr (inr (inr (inr (inr (inl is)))))))) =
      both (fault_line Memory) (fault_line Memory) refl (one.memory is) (two.memory is)
  by_one (inr (inr (inr (inr (inr (inr (inr (inr (inl is))))))))) =
      both (fault_line Big) (fault_line Big) refl (one.big is).1 (two.big is).1
  by_one (inr (inr (inr (inr (inr (inr (inr (inr (inr is))))))))) =
      let x = one.guest is in
      let y = two.guest is in
      both x.0 y.0
      (y.1.line ∙ ap (λ number. fault_line (Guest number))
      (one_size (needs_in a.words) y.1.number x.1.number y.1.outside x.1.outside) ∙ sym x.1.line) x.2 y.2

pub one_status : (a b : Call) (status other : ℕ) → AreAlike a b → IsOutcome a status → IsOutcome b other
    → IsOneStatus status other
one_status a b status other alike one two =
    let same = same_call a b alike.words alike.files in
    by_status a b status other alike.told alike.first (subst NoneFailed same alike.second) one
    (subst (λ (c : Call). IsOutcome c other) same two) one.statuses

pub one_text : (a b : Call) (status : ℕ) → AreAlike a b → IsOutcome a status → IsOutcome b status
    → (status ≡ 0 → HasOneOutput a) → WroteOneText a b
one_text a b status alike one two output =
    let same = same_call a b alike.words alike.files in
    let its = by_one a b status alike.told alike.first one (subst (λ (c : Call). IsOutcome c status) same two) output
    one.statuses in
    record { text = its.text; first = its.first; second = its.second }
