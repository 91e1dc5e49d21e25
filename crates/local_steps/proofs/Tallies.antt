-- What is kept along runs of choices, where it lets local steps and what rests of a thread go as they may.
use Rattle.local_steps.proofs.Common.{Bool, ◌≡◌, ℕ, ◌-◌, ◌≤◌, arith, List, [], ◌∷◌, refl, sym, subst, Some, Choice, Plain, Saved, Setting, here_in_plain, running_on}
use Rattle.std.proofs.Common.{◌+◌}
use Rattle.mach_types.specs.declared.events.Choice.TheVariants as asked
use Rattle.local_steps.specs.Explorations.{Tally, budget_of}
use Rattle.local_steps.specs.Resting.{IsOther}
use Rattle.local_steps.specs.Runs.{AreAlike, MayCome, next_of, total}
use Rattle.local_steps.proofs.Notions.{IsAhead, moved}
use Rattle.local_steps.proofs.Ahead.{IsBehind, next_alike}

module _ (s : Setting) (tally : Tally) where
  -- these choices pass, one after the other
  abbrev pub AllPass : tally.Kept → Plain → List (ℕ × Choice) → Type 0
  AllPass k m [] = Unit {0}
  AllPass k m (a ∷ log) = tally.Passes k m a × AllPass (tally.next k m a) (next_of s m a) log

  -- what is kept after them
  abbrev pub kept_after : tally.Kept → Plain → List (ℕ × Choice) → tally.Kept
  kept_after k m [] = k
  kept_after k m (a ∷ log) = kept_after (tally.next k m a) (next_of s m a) log

  module _ (private : ℕ → ℕ → Bool) (Fits : tally.Kept → Plain → Type 0) where
    -- the local step of a thread passes on a machine that what is kept fits
    pub record StepPasses (k : tally.Kept) (m : Plain) (h t : ℕ) (g : Saved) : Type 0 where
      pub fits : Fits k m
      pub behind : IsBehind s private t g m
      pub runs : running_on h m.kernel.threads ≡ Some t
      pub may : MayCome s m (h, asked.Exec)
      pub passes : tally.Passes k m (h, asked.Exec)

    -- what passes, and what is kept, hangs on the machine without its counts, and not on the file of a thread that makes no event;
    -- what is kept after an event fits; and after a local step no more passes than without it
    pub record IsTally : Type 0 where
      pub fits_alike : (k : tally.Kept) (m n : Plain) → AreAlike m n → Fits k m → Fits k n
      pub fits_moved : (k : tally.Kept) (t : ℕ) (g : Saved) (m : Plain) → Fits k m → Fits k (moved t g m)
      pub fits_next : (k : tally.Kept) (m : Plain) (a : ℕ × Choice) → Fits (tally.next k m a) (next_of s m a)
      pub passes_alike : (k : tally.Kept) (m n : Plain) (a : ℕ × Choice) → AreAlike m n → tally.Passes k m a → tally.Passes k n a
      pub passes_moved : (k : tally.Kept) (t : ℕ) (g : Saved) (m : Plain) (a : ℕ × Choice) → tally.Passes k m a → tally.Passes k (moved t g m) a
      pub passes_back : (k : tally.Kept) (t : ℕ) (g : Saved) (m : Plain) (a : ℕ × Choice) → tally.Passes k (moved t g m) a → tally.Passes k m a
      pub kept_alike : (k : tally.Kept) (m n : Plain) (a : ℕ × Choice) → AreAlike m n → tally.next k m a ≡ tally.next k n a
      pub kept_moved : (k : tally.Kept) (t : ℕ) (g : Saved) (m : Plain) (a : ℕ × Choice) → IsOther a.1 (here_in_plain s m a.0) t
          → IsAhead t g (next_of s m a) (next_of s (moved t g m) a) → tally.next k m a ≡ tally.next k (moved t g m) a
      pub step : (k : tally.Kept) (m : Plain) (h t : ℕ) (g : Saved) → StepPasses k m h t g → (log : List (ℕ × Choice)) (n : Plain)
          → AllPass (tally.next k m (h, asked.Exec)) n log → AllPass k n log

    -- and a local step leaves what is kept as it is
    abbrev pub IsSteady : Type 0
    IsSteady = (k : tally.Kept) (m : Plain) (h t : ℕ) (g : Saved) → StepPasses k m h t g → tally.next k m (h, asked.Exec) ≡ k

    module _ (is : IsTally) where
      pub pass_alike : (log : List (ℕ × Choice)) (k : tally.Kept) (m n : Plain) → AreAlike m n → AllPass k m log → AllPass k n log
      pass_alike [] k m n alike pass = tt
      pass_alike (a ∷ log) k m n alike pass = (
        is.passes_alike k m n a alike pass.0,
        subst (λ (j : tally.Kept). AllPass j (next_of s n a) log) (is.kept_alike k m n a alike)
            (pass_alike log (tally.next k m a) (next_of s m a) (next_of s n a) (next_alike s m n a alike) pass.1),
      )

-- A BUDGET

module _ (s : Setting) (cost : Choice → ℕ) where
  -- more passes where more is left
  more_passes : (log : List (ℕ × Choice)) (j k : ℕ) (m : Plain) → j ≤ k → AllPass s (budget_of cost) j m log → AllPass s (budget_of cost) k m log
  more_passes [] j k m less pass = tt
  more_passes (a ∷ log) j k m less pass =
      let paid = pass.0 in
      (omega arith, more_passes log (j - cost a.1) (k - cost a.1) (next_of s m a) (omega arith) pass.1)

  pub all_paid : (log : List (ℕ × Choice)) (k : ℕ) (m : Plain) → total cost log ≤ k → AllPass s (budget_of cost) k m log
  all_paid [] k m cheap = tt
  all_paid (a ∷ log) k m cheap = (omega arith, all_paid log (k - cost a.1) (next_of s m a) (omega arith))

  pub budget_is : (private : ℕ → ℕ → Bool) → IsTally s (budget_of cost) private (λ k m. Unit {0})
  budget_is private = record {
    fits_alike = λ k m n alike fits. tt;
    fits_moved = λ k t g m fits. tt;
    fits_next = λ k m a. tt;
    passes_alike = λ k m n a alike paid. paid;
    passes_moved = λ k t g m a paid. paid;
    passes_back = λ k t g m a paid. paid;
    kept_alike = λ k m n a alike. refl;
    kept_moved = λ k t g m a other ahead. refl;
    step = λ k m h t g x log n pass. more_passes log (k - cost asked.Exec) k n (omega arith) pass;
  }
