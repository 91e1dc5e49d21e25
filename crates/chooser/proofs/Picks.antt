-- What holds of each pick: it is shown for an event without credit, for an execution on credit, and for one
-- by a word.
use Rattle.std.proofs.Common.{◌≡◌, ℕ, Bool, true, false, Option, Some, None, IfSome, if◌then◌else◌, refl, subst}
use Rattle.std.specs.Option.{option_map}
use Rattle.mach_types.specs.declared.events.Choice.{Choice}
use Rattle.mach_types.specs.declared.events.Choice.TheVariants as asked
use Rattle.mach_types.specs.declared.events.Sight.{Sight}
use Rattle.chooser.specs.declared.cases.Case.{Case}
use Rattle.chooser.specs.declared.cases.Case.TheVariants.{Settled, Open}
use Rattle.chooser.specs.declared.chooser.Pick.{Pick}
use Rattle.chooser.specs.Cases.{plainly, emptied_before, when_idle, when_in_barrier, has_credit, on_credit, when_held_up, leaves_by, drains_by, credit_of, by_word, case_of, is_open, draws, pick_in, pick}

-- the execution that a word decides
abbrev pub on_word : ℕ → Pick
on_word word = record { choice = asked.Exec; credit = credit_of word }

-- the case of a sight by what its six tests say
abbrev case_by : Sight → (idle in_barrier credit requested deliverable enabled : Bool) → Case
case_by seen idle in_barrier credit requested deliverable enabled =
    if idle then Settled (option_map plainly (when_idle seen))
    else if in_barrier then Settled (option_map plainly (when_in_barrier seen))
    else if credit then Settled (Some (on_credit seen))
    else if requested then Settled (Some (plainly (emptied_before seen asked.Take)))
    else if deliverable then Settled (Some (plainly (emptied_before seen asked.Signal)))
    else if enabled then Open
    else Settled (option_map plainly (when_held_up seen))

module _ (P : Pick → Type 0) (plain : (c : Choice) → P (plainly c)) where
  -- an event without credit, or none
  each_plain : (o : Option Choice) → IfSome (option_map plainly o) P
  each_plain None = tt
  each_plain (Some c) = plain c

  each_by_word : (word : ℕ) (seen : Sight) → P (on_word word) → P (by_word word seen)
  each_by_word word seen executed = go (leaves_by word seen) (drains_by word seen)
    where
      go : (leaves drains : Bool)
          → P (if leaves then plainly asked.Preempt else if drains then plainly asked.Drain else on_word word)
      go true drains = plain asked.Preempt
      go false true = plain asked.Drain
      go false false = executed

  each_in_case : (seen : Sight) (word : ℕ)
      → (has_credit seen ≡ true → draws seen ≡ false → P (on_credit seen)) → (draws seen ≡ true → P (on_word word))
      → IfSome (pick_in (case_of seen) word seen) P
  each_in_case seen word by_credit by_open =
      go seen.idle seen.in_barrier (has_credit seen) seen.requested seen.deliverable seen.exec_enabled by_credit
      by_open
    where
      go : (i b c r d e : Bool)
          → (c ≡ true → is_open (case_by seen i b c r d e) ≡ false → P (on_credit seen))
          → (is_open (case_by seen i b c r d e) ≡ true → P (on_word word))
          → IfSome (pick_in (case_by seen i b c r d e) word seen) P
      go true b c r d e by_credit by_open = each_plain (when_idle seen)
      go false true c r d e by_credit by_open = each_plain (when_in_barrier seen)
      go false false true r d e by_credit by_open = by_credit refl refl
      go false false false true d e by_credit by_open = plain (emptied_before seen asked.Take)
      go false false false false true e by_credit by_open = plain (emptied_before seen asked.Signal)
      go false false false false false true by_credit by_open = each_by_word word seen (by_open refl)
      go false false false false false false by_credit by_open = each_plain (when_held_up seen)

  pub each_pick : (seen : Sight) (word : ℕ)
      → (has_credit seen ≡ true → draws seen ≡ false → P (on_credit seen)) → (draws seen ≡ true → P (on_word word))
      → (p : Pick) → pick seen word ≡ Some p → P p
  unfolding pick
  each_pick seen word by_credit by_open p e =
      subst (λ (o : Option Pick). IfSome o P) e (each_in_case seen word by_credit by_open)
