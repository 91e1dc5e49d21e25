-- Logs that come in time, in parts; and that what a hart owes can be delivered.
use Rattle.std.proofs.Common.{◌≡◌, ℕ, ◌&&◌, Bool, true, false, cond, eqb, List, [], ◌∷◌, ◌++◌, fold, refl, sym, ap, ◌∙◌, subst}
use Rattle.std.proofs.lemmas.Bool.{and_parts, false≢true}
use Rattle.mach_types.specs.Events.{choice_of, maker_of}
use Rattle.mach_types.specs.declared.events.Choice.{Choice}
use Rattle.mach_types.specs.declared.events.Entry.{Entry}
use Rattle.block_model.specs.Plain.{Plain, here_in_plain, plain_next, plain_start}
use Rattle.block_model.specs.Setting.{Setting}
unfoldable use Rattle.block_model.specs.Plain.{plain_after}
use Rattle.prompt_runs.specs.Owed.{can_owe, is_back_by, machine_after, none_owed, owed_after, owed_from, owed_next, traps}
use Rattle.prompt_runs.specs.Prompt.{AreInTime, IsInTime, IsSpokenOf}
use Rattle.search_reductions.specs.declared.signals.Signals.{Signals}
use Rattle.search_reductions.specs.declared.signals.Signals.TheVariants.{Any}

-- ALL RUNS

any_in_time : (s : Setting) (log : List Entry) (m : Plain) → AreInTime Any s m none_owed log
any_in_time s [] m = tt
any_in_time s (e ∷ log) m = ((λ owed. absurd (false≢true owed)), any_in_time s log (plain_next s m e))

pub any_spoken : (s : Setting) (log : List Entry) → IsSpokenOf Any s log
any_spoken s log = any_in_time s log (plain_start s)

none_from : (s : Setting) (log : List Entry) (m : Plain) → owed_from Any s m none_owed log ≡ none_owed
none_from s [] m = refl
none_from s (e ∷ log) m = none_from s log (plain_next s m e)

-- so none owes a signal
pub none_after : (s : Setting) (log : List Entry) → owed_after Any s log ≡ none_owed
none_after s log = none_from s log (plain_start s)

-- and each choice comes in time
pub any_at : (s : Setting) (log : List Entry) (h : ℕ) (c : Choice) → IsInTime (plain_after s log) (owed_after Any s log) h c
any_at s log h c owed = absurd (false≢true (sym (λ i. none_after s log i h) ∙ owed))

pub any_owed : (s : Setting) (log other : List Entry) (h : ℕ) → owed_after Any s log h ≡ owed_after Any s other h
any_owed s log other h = λ i. (none_after s log ∙ sym (none_after s other)) i h

-- LOGS IN PARTS

module _ (signals : Signals) (s : Setting) where
  owed_joined : (log more : List Entry) (m : Plain) (owed : ℕ → Bool)
      → owed_from signals s m owed (log ++ more) ≡ owed_from signals s (fold (plain_next s) m log) (owed_from signals s m owed log) more
  owed_joined [] more m owed = refl
  owed_joined (e ∷ log) more m owed = owed_joined log more (plain_next s m e) (owed_next signals s m owed e.hart.0 (choice_of e))

  in_time_joined : (log more : List Entry) (m : Plain) (owed : ℕ → Bool) → AreInTime signals s m owed log
      → AreInTime signals s (fold (plain_next s) m log) (owed_from signals s m owed log) more → AreInTime signals s m owed (log ++ more)
  in_time_joined [] more m owed first second = second
  in_time_joined (e ∷ log) more m owed first second =
      (first.0, in_time_joined log more (plain_next s m e) (owed_next signals s m owed e.hart.0 (choice_of e)) first.1 second)

  in_time_split : (log more : List Entry) (m : Plain) (owed : ℕ → Bool) → AreInTime signals s m owed (log ++ more)
      → AreInTime signals s m owed log × AreInTime signals s (fold (plain_next s) m log) (owed_from signals s m owed log) more
  in_time_split [] more m owed all = (tt, all)
  in_time_split (e ∷ log) more m owed all =
      let rest = in_time_split log more (plain_next s m e) (owed_next signals s m owed e.hart.0 (choice_of e)) all.1 in
      ((all.0, rest.0), rest.1)

  pub owed_more : (log more : List Entry) → owed_after signals s (log ++ more) ≡ owed_from signals s (plain_after s log) (owed_after signals s log) more
  unfolding plain_after
  owed_more log more = owed_joined log more (plain_start s) none_owed

  pub spoken_more : (log more : List Entry) → IsSpokenOf signals s log → AreInTime signals s (plain_after s log) (owed_after signals s log) more
      → IsSpokenOf signals s (log ++ more)
  unfolding plain_after
  spoken_more log more first second = in_time_joined log more (plain_start s) none_owed first second

  pub spoken_parts : (log more : List Entry) → IsSpokenOf signals s (log ++ more)
      → IsSpokenOf signals s log × AreInTime signals s (plain_after s log) (owed_after signals s log) more
  unfolding plain_after
  spoken_parts log more all = in_time_split log more (plain_start s) none_owed all

-- A HART OWES A SIGNAL ONLY WHERE IT CAN

module _ (signals : Signals) (s : Setting) where
  abbrev pub IsFitting : (ℕ → Bool) → Plain → Type 0
  IsFitting owed m = (h : ℕ) → owed h ≡ true → can_owe signals (here_in_plain s m h) ≡ true

  pub fitting_next : (owed : ℕ → Bool) (m : Plain) (h : ℕ) (c : Choice) → IsFitting (owed_next signals s m owed h c) (machine_after s m h c)
  fitting_next owed m h c k is =
      (and_parts (can_owe signals (here_in_plain s (machine_after s m h c) k))
      (cond (eqb h k) (is_back_by (maker_of c) (traps (here_in_plain s m h)) (owed h)) (owed k)) is).0

  fitting_from : (log : List Entry) (owed : ℕ → Bool) (m : Plain) → IsFitting owed m → IsFitting (owed_from signals s m owed log) (fold (plain_next s) m log)
  fitting_from [] owed m fits = fits
  fitting_from (e ∷ log) owed m fits =
      fitting_from log (owed_next signals s m owed e.hart.0 (choice_of e)) (plain_next s m e) (fitting_next owed m e.hart.0 (choice_of e))

  pub fitting_after : (log : List Entry) → IsFitting (owed_after signals s log) (plain_after s log)
  unfolding plain_after
  fitting_after log = fitting_from log none_owed (plain_start s) (λ h is. absurd (false≢true is))
