-- Each outcome that is told is that of a drawn run.
use Rattle.std.proofs.Common.{◌≤◌, ℕ, zero, suc, Bool, true, false, cond, List, [], ◌∷◌, ◌++◌, refl, sym, subst, arith, All}
use Rattle.std.specs.List.{AllByRecursion}
use Rattle.std.proofs.lemmas.List.Elements.{All-from_recursion}
use Rattle.block_model.specs.Setting.{Setting}
use Rattle.explored_runs.specs.declared.exploration.Exploration.{Exploration}
use Rattle.explored_runs.specs.declared.explored.Found.{Found}
use Rattle.explored_runs.specs.declared.made.Made.{Made}
use Rattle.explored_runs.specs.Accounts.{Account, came_to, counted, first_of, found_after, is_full, is_known, told}
use Rattle.explored_runs.specs.DrawnOutcomes.{IsDrawnOutcome}
use Rattle.explored_runs.specs.Explored.{IsExploredAs, IsToldAfter}
use Rattle.explored_runs.specs.Made.{IsMadeAt}
use Rattle.explored_runs.proofs.Outcomes.{once_more}

module _ (s : Setting) (x : Exploration) where
  abbrev AreDrawn : ℕ → List Found → Type 0
  AreDrawn places found = AllByRecursion (IsDrawnOutcome s x places) found

  -- one more run of an outcome
  counts_more : (places : ℕ) (f : Found) → IsDrawnOutcome s x places f → IsDrawnOutcome s x places (once_more f)
  counts_more places f is = record {
    place = is.place;
    among = is.among;
    log = is.log;
    run = is.run;
    seed = is.seed;
    policy = is.policy;
    steps = is.steps;
    console = is.console;
    end = is.end;
  }

  -- one more place
  of_more : (places more : ℕ) (f : Found) → places ≤ more → IsDrawnOutcome s x places f → IsDrawnOutcome s x more f
  of_more places more f fewer is = record {
    place = is.place;
    among = let within = is.among in omega arith;
    log = is.log;
    run = is.run;
    seed = is.seed;
    policy = is.policy;
    steps = is.steps;
    console = is.console;
    end = is.end;
  }

  all_of_more : (places more : ℕ) (found : List Found) → places ≤ more → AreDrawn places found → AreDrawn more found
  all_of_more places more [] fewer all = tt
  all_of_more places more (f ∷ found) fewer all = (of_more places more f fewer all.0, all_of_more places more found fewer all.1)

  -- a new outcome is that of the run that came to it
  first_drawn : (place : ℕ) (m : Made) → IsMadeAt s x place m → IsDrawnOutcome s x (suc place) (first_of m)
  first_drawn place m made =
      subst (λ (y : Made). IsDrawnOutcome s x (suc place) (first_of y)) (sym made.made) (record {
        place = place;
        among = omega arith;
        log = made.log;
        run = made.run;
        seed = refl;
        policy = refl;
        steps = refl;
        console = refl;
        end = refl;
      })

  counted_drawn : (m : Made) (places : ℕ) (found : List Found) → AreDrawn places found → AreDrawn places (counted m found)
  counted_drawn m places [] all = tt
  counted_drawn m places (f ∷ found) all = by_first (came_to m f) (counted_drawn m places found all.1)
    where
      by_first : (b : Bool) → AreDrawn places (counted m found)
          → AreDrawn places (cond b (once_more f ∷ found) (f ∷ counted m found))
      by_first true rest = (counts_more places f all.0, all.1)
      by_first false rest = (all.0, rest)

  with_first : (m : Made) (places : ℕ) (found : List Found) → AreDrawn places found → IsDrawnOutcome s x places (first_of m)
      → AreDrawn places (found ++ first_of m ∷ [])
  with_first m places [] all new = (new, tt)
  with_first m places (f ∷ found) all new = (all.0, with_first m places found all.1 new)

  -- one run more
  after_drawn : (m : Made) (places : ℕ) (found : List Found) → AreDrawn places found → IsDrawnOutcome s x places (first_of m)
      → AreDrawn places (found_after m found)
  after_drawn m places found all new = by_known (is_known m found) (is_full found)
    where
      by_known : (known full : Bool) → AreDrawn places (cond known (counted m found) (cond full found (found ++ first_of m ∷ [])))
      by_known true full = counted_drawn m places found all
      by_known false true = all
      by_known false false = with_first m places found all new

  told_drawn : (runs : ℕ) (a : Account) → IsToldAfter s x runs a → AreDrawn runs a.found
  told_drawn zero a none = subst (λ (c : Account). AreDrawn zero c.found) (sym none) tt
  told_drawn (suc place) a is =
      let before = all_of_more place (suc place) is.before.found (omega arith) (told_drawn place is.before is.is_told) in
      let now : AreDrawn (suc place) (told is.before is.run).found =
      after_drawn is.run (suc place) is.before.found before (first_drawn place is.run is.made) in
      subst (λ (c : Account). AreDrawn (suc place) c.found) (sym is.counted) now

  pub drawn_outcomes : (a : Account) → IsExploredAs s x a → All (IsDrawnOutcome s x x.runs) a.found
  drawn_outcomes a explored =
      All-from_recursion (IsDrawnOutcome s x x.runs) a.found
      (all_of_more a.runs x.runs a.found explored.within (told_drawn a.runs a explored.told))
