-- What harts owe is kept along runs, beside a budget: it hangs on tables of the kernel, on what traps, and on what was owed before, so a
-- local step that passes leaves it as it is, and it is the same at places that are the same.
use Rattle.std.proofs.Common.{◌≡◌, ◌≢◌, inl, inr, ℕ, ◌+◌, ◌-◌, ◌<◌, ◌≤◌, ◌&&◌, ◌||◌, Bool, true, false, cond, eqb, List, [], ◌∷◌, Option, Some, None, is_some, refl, sym, ap, ◌∙◌, subst, arith}
use Rattle.std.specs.Option.{option_map_or}
use Rattle.std.proofs.lemmas.Bool.{eqb-true, false≢true, ne_eqb}
use Rattle.mach_types.specs.Events.{maker_of}
use Rattle.mach_types.specs.Kernel.Signals.{next_for}
use Rattle.mach_types.specs.Kernel.Threads.{Threads, running_on}
use Rattle.mach_types.specs.declared.events.Choice.{Choice}
use Rattle.mach_types.specs.declared.events.Choice.TheVariants as asked
use Rattle.mach_types.specs.declared.events.Maker.{Maker}
use Rattle.mach_types.specs.declared.events.Maker.TheVariants.{Thread, Buffer, Kernel}
use Rattle.mach_types.specs.declared.threads.Saved.{Saved}
use Rattle.mach_types.specs.declared.user_memory.Store.{Store}
use Rattle.block_model.specs.Here.{Here, is_storable, reached, runs}
use Rattle.block_model.specs.Instruction.{next_effect, next_fault}
use Rattle.block_model.specs.Plain.{Plain, here_in_plain}
use Rattle.block_model.specs.Setting.{Setting}
use Rattle.block_model.specs.Sights.{effect_on, fault_on, is_deliverable_on}
use Rattle.block_model.specs.Tables.{IsTables}
use Rattle.block_model.proofs.Laws.{running_is, waits_in_none}
use Rattle.local_steps.specs.Explorations.{Tally}
use Rattle.local_steps.specs.Resting.{IsOther}
use Rattle.local_steps.specs.Runs.{AreAlike, MayCome, next_of, total}
use Rattle.local_steps.proofs.Ahead.{never_traps, steps_ahead}
use Rattle.local_steps.proofs.Notions.{IsAhead, moved, with_file}
use Rattle.local_steps.proofs.Tallies.{AllPass, IsSteady, IsTally, StepPasses}
use Rattle.prompt_runs.specs.Owed.{can_owe, is_back_by, is_deliverable, machine_after, owed_next, traps, traps_by}
use Rattle.prompt_runs.specs.Prompt.{IsInTime, due}
use Rattle.search_reductions.specs.declared.signals.Signals.{Signals}
use Rattle.search_reductions.specs.declared.signals.Signals.TheVariants.{Any, Prompt}
use Rattle.prompt_runs.proofs.InTime.{IsFitting, fitting_next}

-- WHAT A HART CAN OWE HANGS ON THE KERNEL'S TABLES

deliverable_on : (here there : Here) (o : Option ℕ) → here.kernel.signals ≡ there.kernel.signals → is_deliverable_on here o ≡ is_deliverable_on there o
deliverable_on here there None same = refl
deliverable_on here there (Some t) same = ap (λ g. is_some (next_for t g)) same

pub can_owe_same : (signals : Signals) (s : Setting) (m n : Plain) (h : ℕ) → m.kernel.threads ≡ n.kernel.threads → m.kernel.signals ≡ n.kernel.signals
    → can_owe signals (here_in_plain s m h) ≡ can_owe signals (here_in_plain s n h)
can_owe_same Prompt s m n h threads pending =
    deliverable_on (here_in_plain s m h) (here_in_plain s n h) (running_on h m.kernel.threads) pending
    ∙ ap (λ (ts : Threads). is_deliverable_on (here_in_plain s n h) (running_on h ts)) threads
can_owe_same Any s m n h threads pending = refl

-- so none is owed where there is no hart
runs_below : (harts h : ℕ) (ts : Threads) (m : Plain) → IsTables harts m.kernel.threads m.kernel.scheduling → harts ≤ h → (o : Option ℕ) → running_on h m.kernel.threads ≡ o → o ≡ None
runs_below harts h ts m tables high None at = refl
runs_below harts h ts m tables high (Some t) at =
    let lt = tables.below t (record { 0 = h }) (running_is harts h t m.kernel.threads m.kernel.scheduling tables at) in
    absurd (omega arith)

pub owes_below : (signals : Signals) (s : Setting) (m : Plain) (h : ℕ) → IsTables s.limits.harts m.kernel.threads m.kernel.scheduling → s.limits.harts ≤ h
    → can_owe signals (here_in_plain s m h) ≡ false
owes_below Prompt s m h tables high =
    ap (is_deliverable_on (here_in_plain s m h)) (runs_below s.limits.harts h m.kernel.threads m tables high (running_on h m.kernel.threads) refl)
owes_below Any s m h tables high = refl

-- WHAT IS OWED NEXT

back_same : (maker : Maker) (x y : Bool) (o u : Bool) → (maker ≡ Thread → x ≡ y) → o ≡ u → is_back_by maker x o ≡ is_back_by maker y u
back_same Thread x y o u trapping owed = trapping refl
back_same Buffer x y o u trapping owed = owed
back_same Kernel x y o u trapping owed = refl

by_thread : (c : Choice) → maker_of c ≡ Thread → c ≡ asked.Exec
by_thread asked.Exec is = refl
by_thread c is = absurd cc

-- the same at machines where as much can be owed after the event and was before it, and the next instruction traps or not
pub owed_same : (signals : Signals) (s : Setting) (m n : Plain) (owed other : ℕ → Bool) (h : ℕ) (c : Choice) (k : ℕ)
    → can_owe signals (here_in_plain s (machine_after s m h c) k) ≡ can_owe signals (here_in_plain s (machine_after s n h c) k)
    → (c ≡ asked.Exec → traps (here_in_plain s m h) ≡ traps (here_in_plain s n h)) → owed h ≡ other h → owed k ≡ other k
    → owed_next signals s m owed h c k ≡ owed_next signals s n other h c k
owed_same signals s m n owed other h c k can trapping there here =
    let back = back_same (maker_of c) (traps (here_in_plain s m h)) (traps (here_in_plain s n h)) (owed h) (other h) (λ is. trapping (by_thread c is)) there in
    λ i. can i && cond (eqb h k) (back i) (here i)

-- WHERE A THREAD THAT RESTS IS AHEAD

file_apart : (t : ℕ) (g : Saved) (files : ℕ → Saved) (u : ℕ) → t ≢ u → with_file t g files u ≡ files u
file_apart t g files u apart = ap (λ b. cond b g (files u)) (ne_eqb t u apart)

traps_on : (s : Setting) (t : ℕ) (g : Saved) (m : Plain) (h : ℕ) (o : Option ℕ) → o ≢ Some t
    → traps_by (effect_on (here_in_plain s m h) o) (fault_on (here_in_plain s m h) o)
    ≡ traps_by (effect_on (here_in_plain s (moved t g m) h) o) (fault_on (here_in_plain s (moved t g m) h) o)
traps_on s t g m h None apart = refl
traps_on s t g m h (Some u) apart =
    let here = here_in_plain s m h in
    let same : with_file t g m.file u ≡ m.file u = file_apart t g m.file u (λ is. apart (ap Some (sym is))) in
    ap (λ (f : Saved). traps_by (next_effect s.program.pages f) (next_fault s.program.pages (reached here) (is_storable here) f)) (sym same)

-- A LOCAL STEP

never_due : (stores : List Store) → asked.Exec ≡ due stores → ⊥
never_due [] is = cc
never_due (w ∷ ws) is = cc

none_if : (b : Bool) → (b ≡ true → ⊥) → b ≡ false
none_if true not_so = absurd (not_so refl)
none_if false not_so = refl

and_same : (can was : Bool) → (was ≡ true → can ≡ true) → (can && was) ≡ was
and_same can true fits = ap (λ b. b && true) (fits refl)
and_same true false fits = refl
and_same false false fits = refl

-- what is owed by a hart at which none was, and by another
kept_by : (h j : ℕ) (can : Bool) (owed : ℕ → Bool) → owed h ≡ false → (owed j ≡ true → can ≡ true) → (b : Bool) → eqb h j ≡ b → (can && cond b false (owed j)) ≡ owed j
kept_by h j can owed none fits true is =
    let here : owed j ≡ false = ap owed (sym (eqb-true h j is)) ∙ none in
    ap (λ b. can && b) (sym here) ∙ and_same can (owed j) fits
kept_by h j can owed none fits false is = and_same can (owed j) fits

module _ (s : Setting) (signals : Signals) (private : ℕ → ℕ → Bool) (cost : Choice → ℕ) where
  -- what choices may still cost, and which harts owe a signal
  abbrev pub run_tally : Tally
  run_tally = record {
    Kept = ℕ × (ℕ → Bool);
    Passes = λ k m a. (cost a.1 ≤ k.0) × IsInTime m k.1 a.0 a.1;
    next = λ k m a. (k.0 - cost a.1, owed_next signals s m k.1 a.0 a.1);
  }

  abbrev pub FitsOwed : ℕ × (ℕ → Bool) → Plain → Type 0
  FitsOwed k m = IsFitting signals s k.1 m

  more_passes : (log : List (ℕ × Choice)) (i j : ℕ) (owed : ℕ → Bool) (m : Plain) → i ≤ j → AllPass s run_tally (i, owed) m log → AllPass s run_tally (j, owed) m log
  more_passes [] i j owed m less pass = tt
  more_passes (a ∷ log) i j owed m less pass =
      let paid = pass.0.0 in
      ((omega arith, pass.0.1), more_passes log (i - cost a.1) (j - cost a.1) (owed_next signals s m owed a.0 a.1) (next_of s m a) (omega arith) pass.1)

  module _ (k : ℕ × (ℕ → Bool)) (m : Plain) (h t : ℕ) (g : Saved) (x : StepPasses s run_tally private FitsOwed k m h t g) where
    none_there : k.1 h ≡ false
    none_there = none_if (k.1 h) (λ is. never_due (m.waiting h) (x.passes.1 is (waits_in_none asked.Exec (here_in_plain s m h) x.may.free refl)))

    no_trap : traps (here_in_plain s m h) ≡ false
    no_trap =
        let here = here_in_plain s m h in
        ap (λ (o : Option ℕ). traps_by (effect_on here o) (fault_on here o)) x.runs ∙ never_traps s private t g m h x.runs x.behind.good x.behind.local

    can_owe_after : (j : ℕ) → can_owe signals (here_in_plain s (next_of s m (h, asked.Exec)) j) ≡ can_owe signals (here_in_plain s m j)
    can_owe_after j =
        let ahead = steps_ahead s private t g m h x.runs x.behind.good x.behind.local in
        can_owe_same signals s (next_of s m (h, asked.Exec)) m j (ap (λ (y : Plain). y.kernel.threads) ahead) (ap (λ (y : Plain). y.kernel.signals) ahead)

    -- it leaves what is owed
    pub step_owed : owed_next signals s m k.1 h asked.Exec ≡ k.1
    step_owed = λ i j. by_hart j i
      where
        by_hart : (j : ℕ) → owed_next signals s m k.1 h asked.Exec j ≡ k.1 j
        by_hart j =
            ap (λ b. can_owe signals (here_in_plain s (next_of s m (h, asked.Exec)) j) && cond (eqb h j) b (k.1 j)) no_trap
            ∙ ap (λ b. b && cond (eqb h j) false (k.1 j)) (can_owe_after j)
            ∙ kept_by h j (can_owe signals (here_in_plain s m j)) k.1 none_there (x.fits j) (eqb h j) refl

  pub owed_tally : IsTally s run_tally private FitsOwed
  owed_tally = record {
    fits_alike = λ k m n alike fits h is. sym (can_owe_same signals s m n h (ap (λ (y : Plain). y.kernel.threads) alike) (ap (λ (y : Plain). y.kernel.signals) alike)) ∙ fits h is;
    fits_moved = λ k t g m fits h is. can_owe_same signals s (moved t g m) m h refl refl ∙ fits h is;
    fits_next = λ k m a. fitting_next signals s k.1 m a.0 a.1;
    passes_alike = λ k m n a alike passes. (passes.0, subst (λ (y : Plain). IsInTime y k.1 a.0 a.1) alike passes.1);
    passes_moved = λ k t g m a passes. passes;
    passes_back = λ k t g m a passes. passes;
    kept_alike = λ k m n a alike. λ i. (k.0 - cost a.1, owed_next signals s (alike i) k.1 a.0 a.1);
    kept_moved = λ k t g m a other ahead.
        let after = next_of s m a in
        let along = next_of s (moved t g m) a in
        let trapping = λ (is : a.1 ≡ asked.Exec). traps_on s t g m a.0 (running_on a.0 m.kernel.threads) (other is) in
        λ i. (
          k.0 - cost a.1,
          λ j. owed_same signals s m (moved t g m) k.1 k.1 a.0 a.1 j
              (sym (can_owe_same signals s along after j (ap (λ (y : Plain). y.kernel.threads) ahead) (ap (λ (y : Plain). y.kernel.signals) ahead))) trapping refl refl i,
        );
    step = λ k m h t g x log n pass.
        subst (λ (owed : ℕ → Bool). AllPass s run_tally (k.0, owed) n log) (step_owed k m h t g x)
        (more_passes log (k.0 - cost asked.Exec) k.0 (owed_next signals s m k.1 h asked.Exec) n (omega arith) pass);
  }

  -- where a step costs nothing, it leaves all that is kept
  pub owed_steady : cost asked.Exec ≡ 0 → IsSteady s run_tally private FitsOwed
  owed_steady free k m h t g x =
      let left : k.0 - cost asked.Exec ≡ k.0 = omega arith in
      λ i. (left i, step_owed k m h t g x i)
