-- What is due by the parts of a process is what is due on the plain machine.
use Rattle.std.proofs.Common.{◌≡◌, ◌≢◌, ℕ, ◌<◌, ◌≤◌, ◌&&◌, Bool, true, false, not, cond, ltb, List, [], ◌∷◌, length, Option, Some, None, is_some, refl, sym, ap, ◌∙◌, arith}
use Rattle.std.specs.Option.{option_map_or}
use Rattle.std.proofs.lemmas.Bool.{false≢true, lt-ltb}
use Rattle.mach_types.specs.Kernel.Barriers.{harts_that}
use Rattle.mach_types.specs.Kernel.Scheduling.{has_hart}
use Rattle.mach_types.proofs.Laws.{has_hart-harts_that}
use Rattle.mach_types.specs.declared.events.Choice.{Choice}
use Rattle.mach_types.specs.declared.events.Choice.TheVariants as asked
use Rattle.mach_types.specs.declared.user_memory.Store.{Store}
use Rattle.hart_state.specs.declared.hart.HartState.{HartState}
use Rattle.block_model.specs.Plain.{Plain}
use Rattle.block_model.specs.Setting.{Setting}
use Rattle.process.specs.Refinement.{IsTied}
use Rattle.process.specs.declared.parts.Parts.{Parts}
use Rattle.prompt_runs.specs.Prompt.{IsInTime, due}
use Rattle.same_places.specs.Places.{rested}
use Rattle.owed_signals.specs.Dues.{AreDuesOf, has_stores_in, is_drain, is_in_time, is_owing_in, is_signal, owes_with}
use Rattle.owed_signals.specs.declared.dues.Dues.{Dues}

drain_is : (c : Choice) → is_drain c ≡ true → c ≡ asked.Drain
drain_is asked.Drain is = refl
drain_is c is = absurd (false≢true is)

signal_is : (c : Choice) → is_signal c ≡ true → c ≡ asked.Signal
signal_is asked.Signal is = refl
signal_is c is = absurd (false≢true is)

-- by what is owed, whether the thread waits in a barrier, and the stores that wait
abbrev in_time_by : Bool → Option ℕ → List Store → Choice → Bool
in_time_by owed awaits stores c =
    cond ((owed && not (is_some awaits)) && ltb 0 (length stores)) (is_drain c) (cond ((owed && not (is_some awaits)) && not (ltb 0 (length stores))) (is_signal c) true)

some_wait : (w : Store) (ws : List Store) → ltb 0 (length (w ∷ ws)) ≡ true
some_wait w ws = lt-ltb 0 (length (w ∷ ws)) (omega arith)

yes_by : (owed : Bool) (awaits : Option ℕ) (stores : List Store) (c : Choice) → in_time_by owed awaits stores c ≡ true → owed ≡ true → awaits ≡ None → c ≡ due stores
yes_by false awaits stores c is owes apart = absurd (false≢true owes)
yes_by true (Some left) stores c is owes apart = absurd cc
yes_by true None [] c is owes apart = signal_is c is
yes_by true None (w ∷ ws) c is owes apart =
    drain_is c (sym (ap (λ b. cond b (is_drain c) (cond (not b) (is_signal c) true)) (some_wait w ws)) ∙ is)

no_by : (owed : Bool) (awaits : Option ℕ) (stores : List Store) (c : Choice) → in_time_by owed awaits stores c ≡ false → (owed ≡ true → awaits ≡ None → c ≡ due stores) → ⊥
no_by false awaits stores c is in_time = false≢true (sym is)
no_by true (Some left) stores c is in_time = false≢true (sym is)
no_by true None [] c is in_time = false≢true (sym is ∙ ap is_signal (in_time refl refl))
no_by true None (w ∷ ws) c is in_time =
    false≢true (sym is ∙ ap (λ b. cond b (is_drain c) (cond (not b) (is_signal c) true)) (some_wait w ws) ∙ ap is_drain (in_time refl refl))

module _ (s : Setting) (p : Plain) (m : Parts) (owed : ℕ → Bool) (set h : ℕ) (x : Dues) (c : Choice) (few : s.limits.harts ≤ 8) (lt : h < s.limits.harts) (same : has_hart set h ≡ owed h)
    (tied : IsTied s (rested p) m) (dues : AreDuesOf m set x) where
  owing_is : is_owing_in m set h ≡ (owed h && not (is_some (p.awaits h)))
  owing_is = ap (λ (o : Option HartState). option_map_or (λ (y : HartState). has_hart set h && not (is_some y.waits)) o false) (tied.harts h lt) ∙ ap (λ b. b && not (is_some (p.awaits h))) same

  stores_is : has_stores_in m h ≡ ltb 0 (length (p.waiting h))
  stores_is = ap (λ (o : Option HartState). option_map_or (λ (y : HartState). ltb 0 (length y.buffer)) o false) (tied.harts h lt)

  within : (test : ℕ → Bool) → has_hart (harts_that test 8) h ≡ test h
  within test = has_hart-harts_that test 8 h ∙ (ap (λ b. test h && b) (lt-ltb h 8 (omega arith)) ∙ and_true (test h))
    where
      and_true : (b : Bool) → (b && true) ≡ b
      and_true true = refl
      and_true false = refl

  drains_is : has_hart x.drains h ≡ ((owed h && not (is_some (p.awaits h))) && ltb 0 (length (p.waiting h)))
  drains_is = ap (λ n. has_hart n h) dues.drains ∙ within (owes_with m set true) ∙ (λ i. owing_is i && stores_is i)

  signals_is : has_hart x.signals h ≡ ((owed h && not (is_some (p.awaits h))) && not (ltb 0 (length (p.waiting h))))
  signals_is = ap (λ n. has_hart n h) dues.signals ∙ within (owes_with m set false) ∙ (λ i. owing_is i && not (stores_is i))

  in_time_is : is_in_time x h c ≡ in_time_by (owed h) (p.awaits h) (p.waiting h) c
  in_time_is = λ i. cond (drains_is i) (is_drain c) (cond (signals_is i) (is_signal c) true)

  pub is_due : is_in_time x h c ≡ true → IsInTime p owed h c
  is_due is = yes_by (owed h) (p.awaits h) (p.waiting h) c (sym in_time_is ∙ is)

  pub is_late : is_in_time x h c ≡ false → IsInTime p owed h c → ⊥
  is_late is in_time = no_by (owed h) (p.awaits h) (p.waiting h) c (sym in_time_is ∙ is) in_time
