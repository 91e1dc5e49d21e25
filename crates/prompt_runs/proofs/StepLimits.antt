-- Which runs are spoken of hangs on no step limit.
use Rattle.std.proofs.Common.{◌≡◌, ℕ, ◌&&◌, Bool, cond, eqb, List, [], ◌∷◌, Option, Some, None, refl, ap, ◌∙◌, subst}
use Rattle.mach_types.specs.Events.{choice_of, maker_of}
use Rattle.mach_types.specs.declared.events.Choice.{Choice}
use Rattle.mach_types.specs.declared.events.Choice.TheVariants as asked
use Rattle.mach_types.specs.declared.events.Entry.{Entry}
use Rattle.block_model.specs.Events.{done_of}
use Rattle.block_model.specs.Here.{Done, runs}
use Rattle.block_model.specs.Plain.{Plain, apply, here_in_plain, plain_next, plain_start}
use Rattle.block_model.specs.Setting.{Setting, with_steps}
use Rattle.block_model.specs.Sights.{effect_on, fault_on}
use Rattle.prompt_runs.specs.Owed.{can_owe, is_back_by, machine_after, none_owed, owed_next, traps, traps_by}
use Rattle.prompt_runs.specs.Prompt.{AreInTime, IsSpokenOf}
use Rattle.search_reductions.specs.declared.signals.Signals.{Signals}
use Rattle.search_reductions.specs.declared.signals.Signals.TheVariants.{Any, Prompt}

module _ (s : Setting) (n : ℕ) where
  abbrev limited : Setting
  limited = with_steps n s

  -- no rule reads it
  same_done : (c : Choice) (m : Plain) (h : ℕ) → done_of c (here_in_plain limited m h) ≡ done_of c (here_in_plain s m h)
  same_done asked.Exec m h = refl
  same_done asked.Drain m h = refl
  same_done asked.Take m h = refl
  same_done asked.Done m h = refl
  same_done asked.Preempt m h = refl
  same_done (asked.Run t) m h = refl
  same_done asked.Signal m h = refl

  same_machine : (m : Plain) (h : ℕ) (c : Choice) → machine_after limited m h c ≡ machine_after s m h c
  same_machine m h c = ap (λ (d : Done). apply h d m) (same_done c m h)

  can_owe_same : (signals : Signals) (m : Plain) (k : ℕ) → can_owe signals (here_in_plain limited m k) ≡ can_owe signals (here_in_plain s m k)
  can_owe_same Prompt m k = refl
  can_owe_same Any m k = refl

  traps_on : (m : Plain) (h : ℕ) (o : Option ℕ)
      → traps_by (effect_on (here_in_plain limited m h) o) (fault_on (here_in_plain limited m h) o) ≡ traps_by (effect_on (here_in_plain s m h) o) (fault_on (here_in_plain s m h) o)
  traps_on m h None = refl
  traps_on m h (Some t) = refl

  traps_same : (m : Plain) (h : ℕ) → traps (here_in_plain limited m h) ≡ traps (here_in_plain s m h)
  traps_same m h = traps_on m h (runs (here_in_plain s m h))

  -- so the same harts owe a signal
  owed_same : (signals : Signals) (m : Plain) (owed : ℕ → Bool) (h : ℕ) (c : Choice) → owed_next signals limited m owed h c ≡ owed_next signals s m owed h c
  owed_same signals m owed h c = λ i k.
      (can_owe_same signals (machine_after limited m h c) k ∙ ap (λ (x : Plain). can_owe signals (here_in_plain s x k)) (same_machine m h c)) i
      && cond (eqb h k) (is_back_by (maker_of c) (traps_same m h i) (owed h)) (owed k)

  pub unlimited : (signals : Signals) (log : List Entry) (m : Plain) (owed : ℕ → Bool) → AreInTime signals limited m owed log → AreInTime signals s m owed log
  unlimited signals [] m owed all = tt
  unlimited signals (e ∷ log) m owed all =
      let rest = unlimited signals log (plain_next limited m e) (owed_next signals limited m owed e.hart.0 (choice_of e)) all.1 in
      (all.0, moved signals log (plain_next limited m e) (plain_next s m e) _ _ (same_machine m e.hart.0 (choice_of e)) (owed_same signals m owed e.hart.0 (choice_of e)) rest)
    where
      moved : (signals : Signals) (log : List Entry) (p q : Plain) (owed other : ℕ → Bool) → p ≡ q → owed ≡ other → AreInTime signals s p owed log → AreInTime signals s q other log
      moved signals log p q owed other same owes all = subst (λ (o : ℕ → Bool). AreInTime signals s q o log) owes (subst (λ (x : Plain). AreInTime signals s x owed log) same all)

  pub spoken_unlimited : (signals : Signals) (log : List Entry) → IsSpokenOf signals limited log → IsSpokenOf signals s log
  spoken_unlimited signals log spoken = unlimited signals log (plain_start limited) none_owed spoken

-- and the other way round: a limit more gives the first setting again
pub spoken_limited : (s : Setting) (n : ℕ) (signals : Signals) (log : List Entry) → IsSpokenOf signals s log → IsSpokenOf signals (with_steps n s) log
spoken_limited s n signals log spoken = spoken_unlimited (with_steps n s) s.limits.steps signals log spoken
