-- Where each event of seen machines that passes settles to a seen one, each run from a seen one is calm, and what holds of seen
-- machines holds wherever it comes to, if it holds of a machine on which a local step is still to come too.
use Rattle.local_steps.proofs.Common.{Bool, ◌≡◌, inl, inr, ℕ, ◌+◌, ◌≤◌, arith, List, [], ◌∷◌, length, sym, ap, ◌∙◌, subst, zero, suc, Some, Choice, Plain, Saved, Setting, done_of, here_in_plain, plain_over}
use Rattle.mach_types.specs.declared.events.Choice.TheVariants as asked
use Rattle.mach_types.specs.declared.limits.End.{End}
use Rattle.local_steps.specs.Explorations.{IsClosed, Settled, SettlesTo, Steps, Tally}
use Rattle.local_steps.specs.Runs.{AreAlike, MayCome, next_of}
use Rattle.local_steps.proofs.Notions.{EndsSo, Goes, IsAhead, gone, moved}
use Rattle.local_steps.proofs.Ahead.{IsBehind, behind_at, may_alike, next_alike, steps_ahead}
use Rattle.local_steps.proofs.Passing.{LetsPass, passes_or_steps}
use Rattle.local_steps.proofs.Tallies.{AllPass, IsTally, StepPasses, kept_after, pass_alike}
use Rattle.block_model.proofs.Laws.{IsGood, good_here, good_next, good_of}

pub goes_alike : (s : Setting) (m n : Plain) (log : List (ℕ × Choice)) → AreAlike m n → Goes s m log → Goes s n log
goes_alike s m n [] alike goes = tt
goes_alike s m n (a ∷ log) alike goes = (may_alike s m n a alike goes.0, goes_alike s (next_of s m a) (next_of s n a) log (next_alike s m n a alike) goes.1)

pub good_on : (s : Setting) (m : Plain) (a : ℕ × Choice) → IsGood s m → MayCome s m a → IsGood s (next_of s m a)
good_on s m a good may =
    let here = here_in_plain s m a.0 in
    good_next s m a.0 (done_of a.1 here) good (good_of a.1 here (good_here s m a.0 may.lt good) may.free)

module _ (s : Setting) (tally : Tally) (IsCalmAt : Plain → ℕ × Choice → Type 0) (Holds : tally.Kept → Plain → Type 0) where
  -- a run each of whose events is calm, and which comes to where this holds
  abbrev pub IsFine : tally.Kept → Plain → List (ℕ × Choice) → Type 0
  IsFine k m [] = Holds k m
  IsFine k m (a ∷ log) = IsCalmAt m a × IsFine (tally.next k m a) (next_of s m a) log

  pub fine_holds : (log : List (ℕ × Choice)) (k : tally.Kept) (m : Plain) → IsFine k m log → Holds (kept_after s tally k m log) (gone s m log)
  fine_holds [] k m fine = fine
  fine_holds (a ∷ log) k m fine = fine_holds log (tally.next k m a) (next_of s m a) fine.1

module _ (s : Setting) (private : ℕ → ℕ → Bool) (MayRest : ℕ → Saved → Plain → Type 0) (IsCalmAt : Plain → ℕ × Choice → Type 0) (lets : LetsPass s private MayRest IsCalmAt)
    (tally : Tally) (Fits : tally.Kept → Plain → Type 0) (is : IsTally s tally private Fits)
    -- what holds hangs on the machine without its counts, and holds where a local step is still to come
    (Holds : tally.Kept → Plain → Type 0) (holds_alike : (k : tally.Kept) (m n : Plain) → AreAlike m n → Holds k m → Holds k n)
    (holds_behind : (k : tally.Kept) (t : ℕ) (g : Saved) (m : Plain) → Fits k m → IsBehind s private t g m → MayRest t g m → Holds k (moved t g m) → Holds k m)
    -- and where it would come to without a local step, it comes to after it
    (fine_step : (k : tally.Kept) (m : Plain) (h t : ℕ) (g : Saved) → StepPasses s tally private Fits k m h t g → (log : List (ℕ × Choice)) (n : Plain)
    → IsFine s tally IsCalmAt Holds k n log → IsFine s tally IsCalmAt Holds (tally.next k m (h, asked.Exec)) n log)
  where
    abbrev Fine : tally.Kept → Plain → List (ℕ × Choice) → Type 0
    Fine k m log = IsFine s tally IsCalmAt Holds k m log

    -- each run of no more than n events that passes is so
    abbrev AllFine : ℕ → tally.Kept → Plain → Type 0
    AllFine n k m = (log : List (ℕ × Choice)) → length log ≤ n → AllPass s tally k m log → Goes s m log → Fine k m log

    pub fine_alike : (log : List (ℕ × Choice)) (k : tally.Kept) (m n : Plain) → AreAlike m n → Fine k m log → Fine k n log
    fine_alike [] k m n alike fine = holds_alike k m n alike fine
    fine_alike (a ∷ log) k m n alike fine = (
      lets.calm_alike m n a alike fine.0,
      subst (λ (j : tally.Kept). Fine j (next_of s n a) log) (is.kept_alike k m n a alike)
          (fine_alike log (tally.next k m a) (next_of s m a) (next_of s n a) (next_alike s m n a alike) fine.1),
    )

    all_alike : (i : ℕ) (k : tally.Kept) (m n : Plain) → AreAlike m n → AllFine i k m → AllFine i k n
    all_alike i k m n alike all log short pass goes =
        fine_alike log k m n alike (all log short (pass_alike s tally private Fits is log k n m (sym alike) pass) (goes_alike s n m log (sym alike) goes))

    -- of what follows an event
    all_next : (j i : ℕ) (k : tally.Kept) (n : Plain) (a : ℕ × Choice) → i + 1 ≤ j → tally.Passes k n a → MayCome s n a → AllFine j k n → AllFine i (tally.next k n a) (next_of s n a)
    all_next j i k n a more passes may all log short pass goes = (all (a ∷ log) (omega arith) (passes, pass) (may, goes)).1

    -- where all runs from the machine that is ahead are fine, so is one from the machine that is behind
    module _ (t : ℕ) (g : Saved) where
      pub behind_fine : (log : List (ℕ × Choice)) (k : tally.Kept) (m n : Plain) → Fits k m → AllPass s tally k m log → IsBehind s private t g m → MayRest t g m → IsAhead t g m n
          → AllFine (length log) k n → Goes s m log → Fine k m log
      behind_fine [] k m n fits pass behind rests alike all goes = holds_behind k t g m fits behind rests (holds_alike k n (moved t g m) alike (all [] (omega arith) tt tt))
      behind_fine (a ∷ log) k m n fits pass behind rests alike all goes =
          let back = λ (may : MayCome s (moved t g m) a). may_alike s (moved t g m) n a (sym alike) may in
          let passes : tally.Passes k n a = is.passes_alike k (moved t g m) n a (sym alike) (is.passes_moved k t g m a pass.0) in
          let calm = λ (may : MayCome s (moved t g m) a). lets.calm_alike n (moved t g m) a alike (all (a ∷ []) (omega arith) (passes, tt) (back may, tt)).0 in
          elim (passes_or_steps s private MayRest IsCalmAt lets t g m a behind rests goes.0 calm) [
            | inl x ↦
                let same = x.next ∙ sym alike in
                let step : StepPasses s tally private Fits k m a.0 t g = record {
                  fits = fits;
                  behind = behind;
                  runs = x.runs;
                  may = subst (λ c. MayCome s m (a.0, c)) x.is_exec goes.0;
                  passes = subst (λ c. tally.Passes k m (a.0, c)) x.is_exec pass.0;
                } in
                let rest : AllPass s tally k n log = is.step k m a.0 t g step log n
                (subst (λ c. AllPass s tally (tally.next k m (a.0, c)) n log) x.is_exec (pass_alike s tally private Fits is log (tally.next k m a) (next_of s m a) n same pass.1)) in
                let fine : Fine k n log = all log (omega arith) rest (goes_alike s (next_of s m a) n log same goes.1) in
                (x.calm, fine_alike log (tally.next k m a) n (next_of s m a) (sym same) (subst (λ c. Fine (tally.next k m (a.0, c)) n log) (sym x.is_exec) (fine_step k m a.0 t g step log n fine)))
            | inr x ↦
                let kept : tally.next k n a ≡ tally.next k m a = is.kept_alike k n (moved t g m) a alike ∙ sym (is.kept_moved k t g m a x.other x.next) in (
                  x.calm,
                  behind_fine log (tally.next k m a) (next_of s m a) (next_of s n a) (is.fits_next k m a) pass.1 x.behind x.rests (next_alike s n (moved t g m) a alike ∙ x.next)
                      (subst (λ (j : tally.Kept). AllFine (length log) j (next_of s n a)) kept (all_next (length (a ∷ log)) (length log) k n a (omega arith) passes (back x.may) all)) goes.1,
                )
          ]

    -- SEEN MACHINES

    module _ (IsSeen : tally.Kept → Plain → Type 0) (IsOutcome : End → List ℕ → Type 0) (closed : IsClosed s private MayRest IsCalmAt tally IsSeen IsOutcome)
        (seen_good : (k : tally.Kept) (m : Plain) → IsSeen k m → IsGood s m) (seen_holds : (k : tally.Kept) (m : Plain) → IsSeen k m → Holds k m) where
      settles_fine : (i : ℕ) (k : tally.Kept) → ((n : Plain) → IsSeen k n → AllFine i k n) → (m n : Plain) → SettlesTo s private MayRest m n → IsSeen k n → IsGood s m → Fits k m → AllFine i k m
      settles_fine i k fine m n (Settled alike) seen good fits = all_alike i k n m (sym alike) (fine n seen)
      settles_fine i k fine m n (Steps h t g may at local rests settles) seen good fits = λ log short pass goes.
          let first = next_of s m (h, asked.Exec) in
          let behind = behind_at s private t g m h at good may local in
          let ahead = steps_ahead s private t g m h at good local in
          behind_fine t g log k m first fits pass behind rests ahead
          (λ log less pass goes. settles_fine i k fine first n settles seen (good_on s m (h, asked.Exec) good may) (is.fits_alike k (moved t g m) first (sym ahead) (is.fits_moved k t g m fits)) log (omega arith) pass goes) goes

      seen_fine : (i : ℕ) (k : tally.Kept) (n : Plain) → IsSeen k n → AllFine i k n
      seen_fine i k n seen [] short pass goes = seen_holds k n seen
      seen_fine zero k n seen (a ∷ log) short pass goes = absurd (omega arith)
      seen_fine (suc i) k n seen (a ∷ log) short pass goes =
          let j = tally.next k n a in
          let x = closed.steps k n a seen goes.0 pass.0 in (
            closed.calm k n a seen goes.0 pass.0,
            settles_fine i j (seen_fine i j) (next_of s n a) x.0 x.2 x.1 (good_on s n a (seen_good k n seen) goes.0) (is.fits_next k n a) log (omega arith) pass.1 goes.1,
          )

      -- each run from a machine that settles to a seen one is fine
      pub closed_is_fine : (k : tally.Kept) (m n : Plain) (log : List (ℕ × Choice)) → IsGood s m → Fits k m → IsSeen k n → SettlesTo s private MayRest m n → AllPass s tally k m log → Goes s m log
          → Fine k m log
      closed_is_fine k m n log good fits seen settles pass goes = settles_fine (length log) k (seen_fine (length log) k) m n settles seen good fits log (omega arith) pass goes

-- HOW A RUN ENDS

goes_of : (s : Setting) (m : Plain) (log : List (ℕ × Choice)) (e : End) (console : List ℕ) → EndsSo s m log e console → Goes s m log
goes_of s m [] e console ends = tt
goes_of s m (a ∷ log) e console ends = (ends.0, goes_of s (next_of s m a) log e console ends.1)

module _ (s : Setting) (private : ℕ → ℕ → Bool) (MayRest : ℕ → Saved → Plain → Type 0) (IsCalmAt : Plain → ℕ × Choice → Type 0) (lets : LetsPass s private MayRest IsCalmAt)
    (tally : Tally) (Fits : tally.Kept → Plain → Type 0) (is : IsTally s tally private Fits)
    (IsSeen : tally.Kept → Plain → Type 0) (IsOutcome : End → List ℕ → Type 0) (closed : IsClosed s private MayRest IsCalmAt tally IsSeen IsOutcome)
    (seen_good : (k : tally.Kept) (m : Plain) → IsSeen k m → IsGood s m) where
  -- where the run of a machine is over, that is an outcome
  abbrev EndsWell : tally.Kept → Plain → Type 0
  EndsWell k m = (e : End) → plain_over m ≡ Some e → IsOutcome e m.kernel.console

  well_alike : (k : tally.Kept) (m n : Plain) → AreAlike m n → EndsWell k m → EndsWell k n
  well_alike k m n alike well e over = subst (λ (x : List ℕ). IsOutcome e x) (ap (λ (x : Plain). x.kernel.console) alike) (well e (ap plain_over alike ∙ over))

  -- whatever is kept
  fine_whatever : (log : List (ℕ × Choice)) (k j : tally.Kept) (m : Plain) → IsFine s tally IsCalmAt EndsWell k m log → IsFine s tally IsCalmAt EndsWell j m log
  fine_whatever [] k j m fine = fine
  fine_whatever (a ∷ log) k j m fine = (fine.0, fine_whatever log (tally.next k m a) (tally.next j m a) (next_of s m a) fine.1)

  fine_ends : (k : tally.Kept) (m : Plain) (log : List (ℕ × Choice)) (e : End) (console : List ℕ) → IsFine s tally IsCalmAt EndsWell k m log → EndsSo s m log e console → IsOutcome e console
  fine_ends k m [] e console fine ends = subst (IsOutcome e) ends.1 (fine e ends.0)
  fine_ends k m (a ∷ log) e console fine ends = fine_ends (tally.next k m a) (next_of s m a) log e console fine.1 ends.1

  -- how a run ends is an outcome, from a machine that settles to a seen one
  pub closed_is_complete : (k : tally.Kept) (m n : Plain) (log : List (ℕ × Choice)) (e : End) (console : List ℕ) → IsGood s m → Fits k m → IsSeen k n → SettlesTo s private MayRest m n
      → AllPass s tally k m log → EndsSo s m log e console → IsOutcome e console
  closed_is_complete k m n log e console good fits seen settles pass ends =
      let fine = closed_is_fine s private MayRest IsCalmAt lets tally Fits is EndsWell well_alike (λ k t g m fits behind rests well. well) (λ k m h t g x log n fine. fine_whatever log k (tally.next k m (h, asked.Exec)) n fine)
      IsSeen IsOutcome closed seen_good (λ k m seen e over. closed.ends k m e seen over)
      k m n log good fits seen settles pass (goes_of s m log e console ends) in
      fine_ends k m log e console fine ends
