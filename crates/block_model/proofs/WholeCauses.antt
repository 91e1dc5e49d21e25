-- Why the process ends where a waiting thread would begin to run; and that a thread which is outside isn't sent to an abort handler.
use Rattle.block_model.proofs.Common.{◌≡◌, ℕ, ◌⊎◌, [], refl, ap, ◌∙◌, Bool, true, false, not, cond, Option, Some, None, inl, inr, Area, BadWhy, FindsBad, HasCause, Here, Named, Outcome, Seq, area_here, can_write_words, files_interrupted, interruption, interruption_here, is_clearable, is_inside, is_inside_named, is_inside_waiting, is_writable, lives_on, memory, named, option_map_or}
use Rattle.mach_types.specs.Kernel.Areas.{outcome_of}
use Rattle.mach_types.specs.declared.sequences.BadWhy.TheVariants as bad
use Rattle.mach_types.specs.declared.sequences.Named.TheVariants as names
use Rattle.mach_types.specs.declared.sequences.Outcome.TheVariants as comes_to
use Rattle.block_model.specs.Whole.{IsBad, IsGood, can_clear}

-- an interruption that ends the process
abbrev pub IsKilled : Outcome → Type 0
IsKilled o = (why : BadWhy) × (o ≡ comes_to.Killed why)

-- over an area, or none
module _ (here : Here) (pc : ℕ) where
  abbrev named_of : Option Area → Named
  named_of its = option_map_or (λ area. named (memory here) area pc) its names.Nothing

  abbrev comes : Option Area → Outcome
  comes its = interruption (memory here) (is_writable here) its pc

  abbrev good_comes : Bool → Bool → ℕ → Outcome
  good_comes clear inside at = cond (not clear) (comes_to.Killed bad.AreaBytes) (cond inside (comes_to.Aborted at) comes_to.Cleared)

  -- a process that is killed since what is named is bad, or since the pointer can't be written
  not_clear : (clear inside : Bool) (at : ℕ) (why : BadWhy) → good_comes clear inside at ≡ comes_to.Killed why → clear ≡ false
  not_clear false inside at why is = refl
  not_clear true true at why is = absurd cc
  not_clear true false at why is = absurd cc

  killed_for : (area : Area) (n : Named) (why : BadWhy) → outcome_of (is_writable here) area pc n ≡ comes_to.Killed why
      → IsBad n ⊎ (IsGood n × (can_clear here (Some area) ≡ false))
  killed_for area names.Nothing why is = absurd cc
  killed_for area (names.Bad other) why is = inl (other, refl)
  killed_for area (names.Good sequence) why is =
      inr ((sequence, refl), not_clear (is_clearable (is_writable here) area) (is_inside sequence pc) sequence.abort why is)

  pub killed_by : (its : Option Area) (why : BadWhy) → comes its ≡ comes_to.Killed why
      → IsBad (named_of its) ⊎ (IsGood (named_of its) × (can_clear here its ≡ false))
  killed_by None why is = absurd cc
  killed_by (Some area) why is = killed_for area (named (memory here) area pc) why is

  pub bad_kills : (its : Option Area) (why : BadWhy) → named_of its ≡ names.Bad why → comes its ≡ comes_to.Killed why
  bad_kills None why is = absurd cc
  bad_kills (Some area) why is = ap (outcome_of (is_writable here) area pc) is

  pub unclear_kills : (its : Option Area) (sequence : Seq) → named_of its ≡ names.Good sequence → can_clear here its ≡ false
      → comes its ≡ comes_to.Killed bad.AreaBytes
  unclear_kills None sequence is clear = absurd cc
  unclear_kills (Some area) sequence is clear =
      ap (outcome_of (is_writable here) area pc) is ∙ ap (λ b. good_comes b (is_inside sequence pc) sequence.abort) clear

  -- outside no thread is sent to a handler
  never_sent : (clear inside : Bool) (abort at : ℕ) → inside ≡ false → good_comes clear inside abort ≡ comes_to.Aborted at → ⊥
  never_sent clear true abort at outside is = absurd cc
  never_sent true false abort at outside is = absurd cc
  never_sent false false abort at outside is = absurd cc

  outside_sent : (area : Area) (n : Named) (at : ℕ) → is_inside_named n pc ≡ false → outcome_of (is_writable here) area pc n ≡ comes_to.Aborted at → ⊥
  outside_sent area (names.Good sequence) at outside is =
      never_sent (is_clearable (is_writable here) area) (is_inside sequence pc) sequence.abort at outside is
  outside_sent area other at outside is = absurd cc

  pub outside_goes_on : (its : Option Area) (at : ℕ) → is_inside_named (named_of its) pc ≡ false → comes its ≡ comes_to.Aborted at → ⊥
  outside_goes_on None at outside is = absurd cc
  outside_goes_on (Some area) at outside is = outside_sent area (named (memory here) area pc) at outside is

module _ (here : Here) (t : ℕ) where
  -- an interruption ends the process where its check finds something bad, and only there
  pub found_by : (why : BadWhy) → interruption_here here t ≡ comes_to.Killed why → FindsBad here t
  found_by why is = killed_by here (here.file t).pc (area_here here t) why is

  pub bad_found : FindsBad here t → IsKilled (interruption_here here t)
  bad_found (inl named_bad) = (named_bad.0, bad_kills here (here.file t).pc (area_here here t) named_bad.0 named_bad.1)
  bad_found (inr unclear) = (bad.AreaBytes, unclear_kills here (here.file t).pc (area_here here t) unclear.0.0 unclear.0.1 unclear.1)

  -- so it does where a waiting thread begins to run, or where the words of its area can't be written
  cause_by : (o : Outcome) → interruption_here here t ≡ o → lives_on here t o ≡ false → HasCause here t
  cause_by (comes_to.Killed why) is dies = inl (found_by why is)
  cause_by outcome is dies = inr dies

  pub cause_of_death : lives_on here t (interruption_here here t) ≡ false → HasCause here t
  cause_of_death dies = cause_by (interruption_here here t) refl dies

  words_kill : (o : Outcome) → can_write_words here (area_here here t) ≡ false → lives_on here t o ≡ false
  words_kill (comes_to.Killed why) never = refl
  words_kill outcome never = never

  pub dies_of : HasCause here t → lives_on here t (interruption_here here t) ≡ false
  dies_of (inl found) = ap (lives_on here t) (bad_found found).1
  dies_of (inr never) = words_kill (interruption_here here t) never

  -- and a thread that is outside keeps its registers and its pc
  outside_files_by : (o : Outcome) → interruption_here here t ≡ o → is_inside_waiting here t ≡ false → files_interrupted here t o ≡ []
  outside_files_by (comes_to.Aborted at) is outside = absurd (outside_goes_on here (here.file t).pc (area_here here t) at outside is)
  outside_files_by outcome is outside = refl

  pub outside_files : is_inside_waiting here t ≡ false → files_interrupted here t (interruption_here here t) ≡ []
  outside_files outside = outside_files_by (interruption_here here t) refl outside
