-- Where a run can end from each seen machine, it can from wherever a run comes to; and how many instructions runs execute. All runs are those that pass.
use Rattle.local_steps.proofs.Common.{Bool, ◌≡◌, inl, inr, ℕ, ◌+◌, ◌-◌, ◌≤◌, arith, List, [], ◌∷◌, length, refl, sym, ap, ◌∙◌, subst, suc, Some, Choice, Plain, Saved, Setting, plain_over, running_on}
use Rattle.mach_types.specs.declared.events.Choice.TheVariants as asked
use Rattle.mach_types.specs.declared.limits.End.{End}
use Rattle.local_steps.specs.Explorations.{IsClosed, Settled, SettlesTo, Steps, Tally}
use Rattle.local_steps.specs.Runs.{AreAlike, MayCome, instructions_by, next_of, total}
use Rattle.local_steps.proofs.Notions.{Goes, IsAhead, gone, moved}
use Rattle.local_steps.proofs.Ahead.{IsBehind, behind_at, may_alike, next_alike, steps_ahead}
use Rattle.local_steps.proofs.Closed.{IsFine, behind_fine, closed_is_fine, fine_alike, fine_holds, goes_alike, good_on}
use Rattle.local_steps.proofs.Passing.{LetsPass, comes_back, passes_or_steps}
use Rattle.local_steps.proofs.Tallies.{AllPass, IsSteady, IsTally, StepPasses, kept_after, pass_alike}
use Rattle.block_model.proofs.Laws.{IsGood}

-- how many steps a machine settles by
abbrev pub steps_in : {s : Setting} {private : ℕ → ℕ → Bool} {MayRest : ℕ → Saved → Plain → Type 0} {m n : Plain} → SettlesTo s private MayRest m n → ℕ
steps_in (Settled alike) = 0
steps_in (Steps h t g may at local rests settles) = suc (steps_in settles)

-- each of them passes
abbrev pub StepsPass : {s : Setting} {private : ℕ → ℕ → Bool} {MayRest : ℕ → Saved → Plain → Type 0} {m n : Plain} (tally : Tally) → tally.Kept → SettlesTo s private MayRest m n → Type 0
StepsPass tally k (Settled alike) = Unit {0}
StepsPass tally k (Steps {m = m} h t g may at local rests settles) = tally.Passes k m (h, asked.Exec) × StepsPass tally k settles

one_more : (n most steps : ℕ) → n ≤ most + steps + 1 → n ≤ most + suc steps
one_more n most steps few = omega arith

none_more : (n most : ℕ) → n ≤ most → n ≤ most + 0
none_more n most few = omega arith

-- the steps come before these
steps_before : (n steps all : ℕ) → n + steps ≤ all → n + suc steps ≤ 1 + all
steps_before n steps all few = omega arith

-- an event executes one instruction at most
pub one_at_most : (c : Choice) → instructions_by c ≤ 1
one_at_most asked.Exec = omega arith
one_at_most asked.Drain = omega arith
one_at_most asked.Take = omega arith
one_at_most asked.Done = omega arith
one_at_most asked.Preempt = omega arith
one_at_most (asked.Run t) = omega arith
one_at_most asked.Signal = omega arith

-- some choices may come, and pass, after which the run is over
pub record CanEndFrom (s : Setting) (tally : Tally) (k : tally.Kept) (m : Plain) : Type 0 where
  pub log : List (ℕ × Choice)
  pub passes : AllPass s tally k m log
  pub goes : Goes s m log
  pub end : End
  pub over : plain_over (gone s m log) ≡ Some end

gone_alike : (s : Setting) (m n : Plain) (log : List (ℕ × Choice)) → AreAlike m n → AreAlike (gone s m log) (gone s n log)
gone_alike s m n [] alike = alike
gone_alike s m n (a ∷ log) alike = gone_alike s (next_of s m a) (next_of s n a) log (next_alike s m n a alike)

pub can_before : (s : Setting) (tally : Tally) (k : tally.Kept) (m : Plain) (a : ℕ × Choice) → MayCome s m a → tally.Passes k m a → CanEndFrom s tally (tally.next k m a) (next_of s m a) → CanEndFrom s tally k m
can_before s tally k m a may passes can = record { log = a ∷ can.log; passes = (passes, can.passes); goes = (may, can.goes); end = can.end; over = can.over }

module _ (s : Setting) (private : ℕ → ℕ → Bool) (MayRest : ℕ → Saved → Plain → Type 0) (IsCalmAt : Plain → ℕ × Choice → Type 0)
    (tally : Tally) (Fits : tally.Kept → Plain → Type 0) (is : IsTally s tally private Fits) where
  pub can_alike : (k : tally.Kept) (m n : Plain) → AreAlike m n → CanEndFrom s tally k m → CanEndFrom s tally k n
  can_alike k m n alike can = record {
    log = can.log;
    passes = pass_alike s tally private Fits is can.log k m n alike can.passes;
    goes = goes_alike s m n can.log alike can.goes;
    end = can.end;
    over = sym (ap plain_over (gone_alike s m n can.log alike)) ∙ can.over;
  }

  -- nothing is asked of where a run comes to
  abbrev Any : tally.Kept → Plain → Type 0
  Any k m = Unit {0}

  any_whatever : (log : List (ℕ × Choice)) (k j : tally.Kept) (m : Plain) → IsFine s tally IsCalmAt Any k m log → IsFine s tally IsCalmAt Any j m log
  any_whatever [] k j m fine = tt
  any_whatever (a ∷ log) k j m fine = (fine.0, any_whatever log (tally.next k m a) (tally.next j m a) (next_of s m a) fine.1)

  any_step : (k : tally.Kept) (m : Plain) (h t : ℕ) (g : Saved) → StepPasses s tally private Fits k m h t g → (log : List (ℕ × Choice)) (n : Plain)
      → IsFine s tally IsCalmAt Any k n log → IsFine s tally IsCalmAt Any (tally.next k m (h, asked.Exec)) n log
  any_step k m h t g x log n fine = any_whatever log k (tally.next k m (h, asked.Exec)) n fine

  -- each event of each run from here that passes is calm
  abbrev pub AllCalm : tally.Kept → Plain → Type 0
  AllCalm k m = (log : List (ℕ × Choice)) → AllPass s tally k m log → Goes s m log → IsFine s tally IsCalmAt Any k m log

  calm_next : (k : tally.Kept) (m : Plain) (a : ℕ × Choice) → MayCome s m a → tally.Passes k m a → AllCalm k m → AllCalm (tally.next k m a) (next_of s m a)
  calm_next k m a may passes calm log pass goes = (calm (a ∷ log) (passes, pass) (may, goes)).1

  calm_first : (k : tally.Kept) (m : Plain) (a : ℕ × Choice) → MayCome s m a → tally.Passes k m a → AllCalm k m → IsCalmAt m a
  calm_first k m a may passes calm = (calm (a ∷ []) (passes, tt) (may, tt)).0

  -- no run from here with no more than i events executes more instructions than so many
  abbrev pub ExecuteAtMost : ℕ → ℕ → tally.Kept → Plain → Type 0
  ExecuteAtMost i most k m = (log : List (ℕ × Choice)) → length log ≤ i → AllPass s tally k m log → Goes s m log → total instructions_by log ≤ most

  -- MACHINES THAT SETTLE, WHERE THEIR STEPS PASS AND LEAVE WHAT IS KEPT

  module _ (steady : IsSteady s tally private Fits) where
    step_at : (k : tally.Kept) (m : Plain) (h t : ℕ) (g : Saved) → Fits k m → IsBehind s private t g m → MayCome s m (h, asked.Exec) → running_on h m.kernel.threads ≡ Some t
        → tally.Passes k m (h, asked.Exec) → tally.next k m (h, asked.Exec) ≡ k
    step_at k m h t g fits behind may at passes = steady k m h t g (record { fits = fits; behind = behind; runs = at; may = may; passes = passes })

    -- a machine that settles to another goes on as that one does, and executes these steps besides
    pub goes_settled : (k : tally.Kept) (m n : Plain) → IsGood s m → Fits k m → (settles : SettlesTo s private MayRest m n) → StepsPass tally k settles
        → (more : List (ℕ × Choice)) → AllPass s tally k n more → Goes s n more
        → (all : List (ℕ × Choice)) × AllPass s tally k m all × Goes s m all × (total instructions_by more + steps_in settles ≤ total instructions_by all)
    goes_settled k m n good fits (Settled alike) passes more pass goes = (more, pass_alike s tally private Fits is more k n m (sym alike) pass, goes_alike s n m more (sym alike) goes, omega arith)
    goes_settled k m n good fits (Steps h t g may at local rests settles) passes more pass goes =
        let first = next_of s m (h, asked.Exec) in
        let same = step_at k m h t g fits (behind_at s private t g m h at good may local) may at passes.0 in
        let rest = goes_settled k first n (good_on s m (h, asked.Exec) good may) (subst (λ (j : tally.Kept). Fits j first) same (is.fits_next k m (h, asked.Exec))) settles passes.1 more pass goes in (
          (h, asked.Exec) ∷ rest.0,
          (passes.0, subst (λ (j : tally.Kept). AllPass s tally j first rest.0) (sym same) rest.1),
          (may, rest.2),
          steps_before (total instructions_by more) (steps_in settles) (total instructions_by rest.0) rest.3,
        )

    pub can_settled : (k : tally.Kept) (m n : Plain) → IsGood s m → Fits k m → (settles : SettlesTo s private MayRest m n) → StepsPass tally k settles → CanEndFrom s tally k n → CanEndFrom s tally k m
    can_settled k m n good fits (Settled alike) passes can = can_alike k n m (sym alike) can
    can_settled k m n good fits (Steps h t g may at local rests settles) passes can =
        let first = next_of s m (h, asked.Exec) in
        let same = step_at k m h t g fits (behind_at s private t g m h at good may local) may at passes.0 in
        let rest = can_settled k first n (good_on s m (h, asked.Exec) good may) (subst (λ (j : tally.Kept). Fits j first) same (is.fits_next k m (h, asked.Exec))) settles passes.1 can in
        can_before s tally k m (h, asked.Exec) may passes.0 (subst (λ (j : tally.Kept). CanEndFrom s tally j first) (sym same) rest)

  module _ (lets : LetsPass s private MayRest IsCalmAt) where
    all_calm_alike : (k : tally.Kept) (m n : Plain) → AreAlike m n → AllCalm k m → AllCalm k n
    all_calm_alike k m n alike calm log pass goes =
        fine_alike s private MayRest IsCalmAt lets tally Fits is Any (λ j x y alike holds. tt) (λ j t g x fits behind rests holds. tt) any_step log k m n alike
        (calm log (pass_alike s tally private Fits is log k n m (sym alike) pass) (goes_alike s n m log (sym alike) goes))

    all_calm_behind : (k : tally.Kept) (t : ℕ) (g : Saved) (m : Plain) → Fits k m → IsBehind s private t g m → MayRest t g m → AllCalm k (moved t g m) → AllCalm k m
    all_calm_behind k t g m fits behind rests calm log pass goes =
        behind_fine s private MayRest IsCalmAt lets tally Fits is Any (λ j x y alike holds. tt) (λ j t g x fits behind rests holds. tt) any_step t g log k m (moved t g m) fits pass behind rests refl
        (λ more short pass goes. calm more pass goes) goes

    module _ (t : ℕ) (g : Saved) where
      -- a run that ends is made from the machine that is behind too
      can_behind : IsSteady s tally private Fits → (log : List (ℕ × Choice)) (k : tally.Kept) (m n : Plain) (e : End) → Fits k m → IsBehind s private t g m → MayRest t g m → IsAhead t g m n → AllCalm k n
          → AllPass s tally k n log → Goes s n log → plain_over (gone s n log) ≡ Some e → CanEndFrom s tally k m
      can_behind steady [] k m n e fits behind rests alike calm pass goes over = record { log = []; passes = tt; goes = tt; end = e; over = sym (ap plain_over alike) ∙ over }
      can_behind steady (a ∷ log) k m n e fits behind rests alike calm pass goes over =
          let ahead = may_alike s n (moved t g m) a alike goes.0 in
          let its = lets.calm_alike n (moved t g m) a alike (calm_first k n a goes.0 pass.0 calm) in
          let passes : tally.Passes k m a = is.passes_back k t g m a (is.passes_alike k n (moved t g m) a alike pass.0) in
          elim (comes_back s private MayRest IsCalmAt lets t g m a behind rests ahead its) [
            | inl x ↦
                let now : CanEndFrom s tally k n = record { log = a ∷ log; passes = pass; goes = goes; end = e; over = over } in
                let first = next_of s m (a.0, asked.Exec) in
                let steps : tally.Passes k m (a.0, asked.Exec) = subst (λ c. tally.Passes k m (a.0, c)) x.is_exec passes in
                let same = step_at steady k m a.0 t g fits behind x.may x.runs steps in
                can_before s tally k m (a.0, asked.Exec) x.may steps (subst (λ (j : tally.Kept). CanEndFrom s tally j first) (sym same) (can_alike k n first (alike ∙ sym x.next) now))
            | inr x ↦
                let kept : tally.next k n a ≡ tally.next k m a = is.kept_alike k n (moved t g m) a alike ∙ sym (is.kept_moved k t g m a x.1.other x.1.next) in
                can_before s tally k m a x.0 passes (can_behind steady log (tally.next k m a) (next_of s m a) (next_of s n a) e (is.fits_next k m a) x.1.behind x.1.rests
                (next_alike s n (moved t g m) a alike ∙ x.1.next)
                (subst (λ (j : tally.Kept). AllCalm j (next_of s n a)) kept (calm_next k n a goes.0 pass.0 calm))
                (subst (λ (j : tally.Kept). AllPass s tally j (next_of s n a) log) kept pass.1) goes.1 over)
          ]

      -- and no run from there executes more than those from the other that are no longer, but for the step
      pub executes_behind : (log : List (ℕ × Choice)) (i most : ℕ) (k : tally.Kept) (m n : Plain) → length log ≤ i → Fits k m → IsBehind s private t g m → MayRest t g m → IsAhead t g m n
          → AllCalm k n → ExecuteAtMost i most k n → AllPass s tally k m log → Goes s m log → total instructions_by log ≤ most + 1
      executes_behind [] i most k m n short fits behind rests alike calm few pass goes = omega arith
      executes_behind (a ∷ log) i most k m n short fits behind rests alike calm few pass goes =
          let back = λ (may : MayCome s (moved t g m) a). may_alike s (moved t g m) n a (sym alike) may in
          let passes : tally.Passes k n a = is.passes_alike k (moved t g m) n a (sym alike) (is.passes_moved k t g m a pass.0) in
          let its = λ (may : MayCome s (moved t g m) a). lets.calm_alike n (moved t g m) a alike (calm_first k n a (back may) passes calm) in
          let shorter : length log ≤ i - 1 = omega arith in
          let some : 1 ≤ i = omega arith in
          let one = one_at_most a.1 in
          elim (passes_or_steps s private MayRest IsCalmAt lets t g m a behind rests goes.0 its) [
            | inl x ↦
                let same = x.next ∙ sym alike in
                let step : StepPasses s tally private Fits k m a.0 t g = record {
                  fits = fits;
                  behind = behind;
                  runs = x.runs;
                  may = subst (λ c. MayCome s m (a.0, c)) x.is_exec goes.0;
                  passes = subst (λ c. tally.Passes k m (a.0, c)) x.is_exec pass.0;
                } in
                let on = pass_alike s tally private Fits is log (tally.next k m a) (next_of s m a) n same pass.1 in
                let rest = few log (omega arith) (is.step k m a.0 t g step log n (subst (λ c. AllPass s tally (tally.next k m (a.0, c)) n log) x.is_exec on))
                (goes_alike s (next_of s m a) n log same goes.1) in
                omega arith
            | inr x ↦
                let may = back x.may in
                let kept : tally.next k n a ≡ tally.next k m a = is.kept_alike k n (moved t g m) a alike ∙ sym (is.kept_moved k t g m a x.other x.next) in
                let first = few (a ∷ []) some (passes, tt) (may, tt) in
                let rest = executes_behind log (i - 1) (most - instructions_by a.1) (tally.next k m a) (next_of s m a) (next_of s n a) shorter (is.fits_next k m a) x.behind x.rests
                (next_alike s n (moved t g m) a alike ∙ x.next) (subst (λ (j : tally.Kept). AllCalm j (next_of s n a)) kept (calm_next k n a may passes calm))
                (λ more short pass goes.
                let all = few (a ∷ more) (omega arith) (passes, subst (λ (j : tally.Kept). AllPass s tally j (next_of s n a) more) (sym kept) pass) (may, goes) in
                omega arith) pass.1 goes.1 in
                omega arith
          ]

    -- SEEN MACHINES

    module _ (IsSeen : tally.Kept → Plain → Type 0) (IsOutcome : End → List ℕ → Type 0) (closed : IsClosed s private MayRest IsCalmAt tally IsSeen IsOutcome)
        (seen_good : (k : tally.Kept) (m : Plain) → IsSeen k m → IsGood s m) (seen_fits : (k : tally.Kept) (m : Plain) → IsSeen k m → Fits k m) where
      pub all_calm : (k : tally.Kept) (m n : Plain) → IsGood s m → Fits k m → IsSeen k n → SettlesTo s private MayRest m n → AllCalm k m
      all_calm k m n good fits seen settles log pass goes =
          closed_is_fine s private MayRest IsCalmAt lets tally Fits is Any (λ j x y alike holds. tt) (λ j t g x fits behind rests holds. tt) any_step IsSeen IsOutcome closed seen_good
          (λ j x seen. tt) k m n log good fits seen settles pass goes

      pub seen_calm : (k : tally.Kept) (n : Plain) → IsSeen k n → AllCalm k n
      seen_calm k n seen = all_calm k n n (seen_good k n seen) (seen_fits k n seen) seen (Settled refl)

      -- where no run from a seen machine with no more than i events executes more than so much, none does from one that settles to it,
      -- but for these steps
      pub executes_settled : (i most : ℕ) (k : tally.Kept) (m n : Plain) → IsGood s m → Fits k m → IsSeen k n → (settles : SettlesTo s private MayRest m n) → ExecuteAtMost i most k n
          → ExecuteAtMost i (most + steps_in settles) k m
      executes_settled i most k m n good fits seen (Settled alike) few log short pass goes =
          none_more (total instructions_by log) most (few log short (pass_alike s tally private Fits is log k m n alike pass) (goes_alike s m n log alike goes))
      executes_settled i most k m n good fits seen (Steps h t g may at local rests settles) few log short pass goes =
          let first = next_of s m (h, asked.Exec) in
          let well = good_on s m (h, asked.Exec) good may in
          let behind = behind_at s private t g m h at good may local in
          let ahead = steps_ahead s private t g m h at good local in
          let fit = is.fits_alike k (moved t g m) first (sym ahead) (is.fits_moved k t g m fits) in
          one_more (total instructions_by log) most (steps_in settles)
          (executes_behind t g log i (most + steps_in settles) k m first short fits behind rests ahead (all_calm k first n well fit seen settles)
          (executes_settled i most k first n well fit seen settles few) pass goes)

      -- it can end, and goes on calmly
      record IsHopeful (k : tally.Kept) (m : Plain) : Type 0 where
        pub can : CanEndFrom s tally k m
        pub calm : AllCalm k m

      -- where each seen machine can end, each machine can that a run comes to
      pub each_can_end : IsSteady s tally private Fits → ((k : tally.Kept) (m : Plain) → IsSeen k m → CanEndFrom s tally k m) → (k : tally.Kept) (m n : Plain) → IsGood s m → Fits k m → IsSeen k n
          → SettlesTo s private MayRest m n → (log : List (ℕ × Choice)) → AllPass s tally k m log → Goes s m log → CanEndFrom s tally (kept_after s tally k m log) (gone s m log)
      each_can_end steady can k m n good fits seen settles log pass goes =
          (fine_holds s tally IsCalmAt IsHopeful log k m
          (closed_is_fine s private MayRest IsCalmAt lets tally Fits is IsHopeful
          (λ j x y alike holds. record { can = can_alike j x y alike holds.can; calm = all_calm_alike j x y alike holds.calm })
          (λ j t g x fits behind rests holds. record {
            can = can_behind t g steady holds.can.log j x (moved t g x) holds.can.end fits behind rests refl holds.calm holds.can.passes holds.can.goes holds.can.over;
            calm = all_calm_behind j t g x fits behind rests holds.calm;
          })
          (λ j x h t g step log y fine. subst (λ (i : tally.Kept). IsFine s tally IsCalmAt IsHopeful i y log) (sym (steady j x h t g step)) fine)
          IsSeen IsOutcome closed seen_good (λ j x seen. record { can = can j x seen; calm = seen_calm j x seen }) k m n log good fits seen settles pass goes)).can
