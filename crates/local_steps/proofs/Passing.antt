-- An event of a machine on which thread t has a local step before it is that step, or comes where t is ahead too.
use Rattle.local_steps.proofs.Common.{Bool, ◌≡◌, ◌≢◌, ◌⊎◌, inl, inr, ℕ, refl, sym, ap, ◌∙◌, subst, eqb_tells, Option, Some, None, Choice, Here, Plain, Saved, Setting, here_in_plain, running_on, thread_in}
use Rattle.mach_types.specs.declared.events.Choice.TheVariants as asked
use Rattle.local_steps.specs.LocalSteps.{IsStepAt}
use Rattle.local_steps.specs.Resting.{IsOther}
use Rattle.local_steps.specs.Runs.{AreAlike, MayCome, next_of, uncounted}
use Rattle.local_steps.proofs.Notions.{IsAhead, IsCalm, moved, with_file}
use Rattle.local_steps.proofs.Ahead.{IsBehind, IsPassedTo, behind_next, may_step, other_passes, other_refused, own_passes, some_same, steps_ahead}
use Rattle.local_steps.proofs.Congruence.{IsAlikeFor, own_refused}
use Rattle.block_model.proofs.Laws.{IsGood}

module _ (s : Setting) (private : ℕ → ℕ → Bool) (MayRest : ℕ → Saved → Plain → Type 0) (IsCalmAt : Plain → ℕ × Choice → Type 0) where
  -- what is calm hangs on the machine without its counts; a local step is calm; where an event is calm on the machine
  -- that is ahead, it is so for the thread that rests; and then, where it does the same on both machines, it is calm on
  -- the other one too, and the thread goes on to rest
  pub record LetsPass : Type 0 where
    pub calm_alike : (m n : Plain) (a : ℕ × Choice) → AreAlike m n → IsCalmAt m a → IsCalmAt n a
    pub calm_step : (m : Plain) (h t : ℕ) (g : Saved) → IsGood s m → running_on h m.kernel.threads ≡ Some t → IsStepAt s private t g m → IsCalmAt m (h, asked.Exec)
    pub calms : (t : ℕ) (g : Saved) (m : Plain) (a : ℕ × Choice) → IsBehind s private t g m → MayCome s m a → MayRest t g m → IsCalmAt (moved t g m) a
        → IsCalm a.1 (here_in_plain s m a.0) t g
    pub calm_back : (t : ℕ) (g : Saved) (m : Plain) (a : ℕ × Choice) → IsAlikeFor (here_in_plain s m a.0) m.file (with_file t g m.file) a.1
        → IsCalmAt (moved t g m) a → IsCalmAt m a
    pub rests_on : (t : ℕ) (g : Saved) (m : Plain) (a : ℕ × Choice) → IsBehind s private t g m → MayCome s m a → IsOther a.1 (here_in_plain s m a.0) t → MayRest t g m
        → IsPassedTo s private t g m a → IsCalmAt (moved t g m) a → MayRest t g (next_of s m a) × IsStepAt s private t g (next_of s m a)

  -- the event is the step
  pub record HasStepped (t : ℕ) (g : Saved) (m : Plain) (a : ℕ × Choice) : Type 0 where
    pub is_exec : a.1 ≡ asked.Exec
    pub runs : running_on a.0 m.kernel.threads ≡ Some t
    pub calm : IsCalmAt m a
    pub next : AreAlike (next_of s m a) (moved t g m)

  -- the event comes on both machines, and the step is still before the one
  pub record HasPassed (t : ℕ) (g : Saved) (m : Plain) (a : ℕ × Choice) : Type 0 where
    pub other : IsOther a.1 (here_in_plain s m a.0) t
    pub may : MayCome s (moved t g m) a
    pub calm : IsCalmAt m a
    pub next : IsAhead t g (next_of s m a) (next_of s (moved t g m) a)
    pub behind : IsBehind s private t g (next_of s m a)
    pub rests : MayRest t g (next_of s m a)

  -- the step comes first: the event is an instruction of the thread
  pub record StepsFirst (t : ℕ) (g : Saved) (m : Plain) (a : ℕ × Choice) : Type 0 where
    pub is_exec : a.1 ≡ asked.Exec
    pub runs : running_on a.0 m.kernel.threads ≡ Some t
    pub may : MayCome s m (a.0, asked.Exec)
    pub next : AreAlike (next_of s m (a.0, asked.Exec)) (moved t g m)

  module _ (lets : LetsPass) (t : ℕ) (g : Saved) (m : Plain) (a : ℕ × Choice) (behind : IsBehind s private t g m) (rests : MayRest t g m) where
    abbrev here : Here
    here = here_in_plain s m a.0

    never_exec : (c : Choice) → c ≢ asked.Exec → IsOther c here t
    never_exec c never exec = absurd (never exec)

    apart_other : ((u : ℕ) → thread_in a.1 here ≡ Some u → u ≢ t) → IsOther a.1 here t
    apart_other apart exec at = apart t (ap (λ c. thread_in c here) exec ∙ at) refl

    apart_from : (u : ℕ) → thread_in a.1 here ≡ Some u → u ≢ t → (v : ℕ) → thread_in a.1 here ≡ Some v → v ≢ t
    apart_from u is ne v its same = ne (some_same u v (sym is ∙ its) ∙ same)

    passed : MayCome s m a → IsCalmAt (moved t g m) a → IsPassedTo s private t g m a → IsOther a.1 here t → HasPassed t g m a
    passed may calm x other =
        let still = lets.rests_on t g m a behind may other rests x calm in
        record { other = other; may = x.may; calm = lets.calm_back t g m a x.alike calm; next = x.next; behind = behind_next s private t g m a x still.1; rests = still.0 }

    passed_own : MayCome s m a → IsCalmAt (moved t g m) a → thread_in a.1 here ≡ Some t → a.1 ≢ asked.Exec → HasPassed t g m a
    passed_own may calm its never = passed may calm (own_passes s private t g m a behind may its never (lets.calms t g m a behind may rests calm)) (never_exec a.1 never)

    passed_apart : MayCome s m a → IsCalmAt (moved t g m) a → ((u : ℕ) → thread_in a.1 here ≡ Some u → u ≢ t) → HasPassed t g m a
    passed_apart may calm apart = passed may calm (other_passes s private t g m a behind may apart) (apart_other apart)

    -- AN EVENT WHERE t HAS THE STEP BEFORE IT

    module _ (may : MayCome s m a) (calm_ahead : MayCome s (moved t g m) a → IsCalmAt (moved t g m) a) where
      own_ahead : a.1 ≢ asked.Exec → MayCome s (moved t g m) a
      own_ahead never = record { goes = may.goes; lt = may.lt; free = sym (own_refused here t m.file g a.1 never) ∙ may.free }

      apart_ahead : ((u : ℕ) → thread_in a.1 here ≡ Some u → u ≢ t) → MayCome s (moved t g m) a
      apart_ahead apart = record { goes = may.goes; lt = may.lt; free = sym (other_refused s private t g m behind a.0 a.1 apart) ∙ may.free }

      by_choice : thread_in a.1 here ≡ Some t → (c : Choice) → a.1 ≡ c → HasStepped t g m a ⊎ HasPassed t g m a
      by_choice its asked.Exec is =
          let at : running_on a.0 m.kernel.threads ≡ Some t = ap (λ c. thread_in c here) (sym is) ∙ its in
          inl (record {
            is_exec = is;
            runs = at;
            calm = subst (λ c. IsCalmAt m (a.0, c)) (sym is) (lets.calm_step m a.0 t g behind.good at behind.local);
            next = ap (λ c. uncounted (next_of s m (a.0, c))) is ∙ steps_ahead s private t g m a.0 at behind.good behind.local;
          })
      by_choice its c is =
          let never : a.1 ≢ asked.Exec = λ exec. absurd cc in
          inr (passed_own may (calm_ahead (own_ahead never)) its never)

      by_apart : ((u : ℕ) → thread_in a.1 here ≡ Some u → u ≢ t) → HasStepped t g m a ⊎ HasPassed t g m a
      by_apart apart = inr (passed_apart may (calm_ahead (apart_ahead apart)) apart)

      by_thread : (r : Option ℕ) → thread_in a.1 here ≡ r → HasStepped t g m a ⊎ HasPassed t g m a
      by_thread None is = by_apart (λ u its. absurd cc)
      by_thread (Some u) is = elim (eqb_tells u t) [
        | inl p ↦ by_choice (is ∙ ap Some p.1) a.1 refl
        | inr q ↦ by_apart (apart_from u is q.1)
      ]

      pub passes_or_steps : HasStepped t g m a ⊎ HasPassed t g m a
      passes_or_steps = by_thread (thread_in a.1 here) refl

    -- AN EVENT WHERE t IS AHEAD

    module _ (ahead : MayCome s (moved t g m) a) (calm : IsCalmAt (moved t g m) a) where
      abbrev ComesBack : Type 0
      ComesBack = StepsFirst t g m a ⊎ (MayCome s m a × HasPassed t g m a)

      back_choice : thread_in a.1 here ≡ Some t → (c : Choice) → a.1 ≡ c → ComesBack
      back_choice its asked.Exec is =
          let at : running_on a.0 m.kernel.threads ≡ Some t = ap (λ c. thread_in c here) (sym is) ∙ its in
          inl (record { is_exec = is; runs = at; may = may_step s private t g m a.0 at behind ahead.goes ahead.lt; next = steps_ahead s private t g m a.0 at behind.good behind.local })
      back_choice its c is =
          let never : a.1 ≢ asked.Exec = λ exec. absurd cc in
          let may : MayCome s m a = record { goes = ahead.goes; lt = ahead.lt; free = own_refused here t m.file g a.1 never ∙ ahead.free } in
          inr (may, passed_own may calm its never)

      back_apart : ((u : ℕ) → thread_in a.1 here ≡ Some u → u ≢ t) → ComesBack
      back_apart apart =
          let may : MayCome s m a = record { goes = ahead.goes; lt = ahead.lt; free = other_refused s private t g m behind a.0 a.1 apart ∙ ahead.free } in
          inr (may, passed_apart may calm apart)

      back_thread : (r : Option ℕ) → thread_in a.1 here ≡ r → ComesBack
      back_thread None is = back_apart (λ u its. absurd cc)
      back_thread (Some u) is = elim (eqb_tells u t) [
        | inl p ↦ back_choice (is ∙ ap Some p.1) a.1 refl
        | inr q ↦ back_apart (apart_from u is q.1)
      ]

      -- it comes where t has the step before it too, unless the step comes first
      pub comes_back : ComesBack
      comes_back = back_thread (thread_in a.1 here) refl
