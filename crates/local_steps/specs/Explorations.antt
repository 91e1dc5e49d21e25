-- Machines that were explored, each one only after local steps of its threads, and what has to hold of them
-- so that they have the end of every run (own).
use Rattle.std.specs.Prelude.{ℕ, ◌≡◌, ◌≤◌, ◌-◌, Bool, List, Some}
use Rattle.mach_types.specs.Kernel.Threads.{running_on}
use Rattle.mach_types.specs.declared.events.Choice.{Choice}
use Rattle.mach_types.specs.declared.events.Choice.TheVariants as asked
use Rattle.mach_types.specs.declared.limits.End.{End}
use Rattle.mach_types.specs.declared.threads.Saved.{Saved}
use Rattle.block_model.specs.Plain.{Plain, plain_over, plain_start}
use Rattle.block_model.specs.Setting.{Setting}
use Rattle.local_steps.specs.LocalSteps.{IsStepAt}
use Rattle.local_steps.specs.Resting.{LeavesAreas, RestsOutside}
use Rattle.local_steps.specs.Runs.{AreAlike, IsReached, MayCome, RunEndsSo, next_of}

-- the second machine is what the first one comes to by local steps of its threads, one after another, each of
-- a thread that may rest there with the file that the step leaves
pub data SettlesTo (s : Setting) (private : ℕ → ℕ → Bool) (MayRest : ℕ → Saved → Plain → Type 0)
    : Plain → Plain → Type 0 where
  Settled : {m n : Plain} → AreAlike m n → SettlesTo s private MayRest m n
  Steps : {m n : Plain} (h t : ℕ) (g : Saved) → MayCome s m (h, asked.Exec)
      → running_on h m.kernel.threads ≡ Some t → IsStepAt s private t g m → MayRest t g m
      → SettlesTo s private MayRest (next_of s m (h, asked.Exec)) n → SettlesTo s private MayRest m n

-- what is kept along a run; which choices it lets pass at a machine; and what is kept after one
pub record Tally : Type 1 where
  pub Kept : Type 0
  pub Passes : Kept → Plain → ℕ × Choice → Type 0
  pub next : Kept → Plain → ℕ × Choice → Kept

-- machines that were seen, each with what is kept there, are closed: each that is over ended as one of the
-- outcomes says; and each event of one that passes is calm, and leads to a machine that settles to a seen one,
-- where what is kept is the same
pub record IsClosed (s : Setting) (private : ℕ → ℕ → Bool) (MayRest : ℕ → Saved → Plain → Type 0)
    (IsCalmAt : Plain → ℕ × Choice → Type 0) (tally : Tally) (IsSeen : tally.Kept → Plain → Type 0)
    (IsOutcome : End → List ℕ → Type 0) : Type 0 where
  pub ends : (k : tally.Kept) (m : Plain) (e : End) → IsSeen k m → plain_over m ≡ Some e
      → IsOutcome e m.kernel.console
  pub calm : (k : tally.Kept) (m : Plain) (a : ℕ × Choice) → IsSeen k m → MayCome s m a
      → tally.Passes k m a → IsCalmAt m a
  pub steps : (k : tally.Kept) (m : Plain) (a : ℕ × Choice) → IsSeen k m → MayCome s m a
      → tally.Passes k m a
      → (n : Plain) × IsSeen (tally.next k m a) n × SettlesTo s private MayRest (next_of s m a) n

-- a budget is kept: what choices may still cost
abbrev pub budget_of : (Choice → ℕ) → Tally
budget_of cost = record { Kept = ℕ; Passes = λ k m a. cost a.1 ≤ k; next = λ k m a. k - cost a.1 }

-- an exploration: each machine that was seen is one that a run comes to; the start settles to one of them,
-- from where choices may cost k; and they are closed
pub record IsExplored (s : Setting) (threads : ℕ → Type 0) (private : ℕ → ℕ → Bool) (cost : Choice → ℕ)
    (k : ℕ) (IsSeen : ℕ → Plain → Type 0) (IsOutcome : End → List ℕ → Type 0) : Type 0 where
  pub reached : (j : ℕ) (m : Plain) → IsSeen j m → IsReached s m
  pub start : (n : Plain) × IsSeen k n × SettlesTo s private (RestsOutside threads) (plain_start s) n
  pub closed : IsClosed s private (RestsOutside threads) (LeavesAreas s threads private) (budget_of cost) IsSeen
      IsOutcome

-- each block run that is over and costs no more than k, however long, ended as one of these outcomes says
abbrev pub AreAll : Setting → (Choice → ℕ) → ℕ → (End → List ℕ → Type 0) → Type 0
AreAll s cost k IsOutcome = (e : End) (console : List ℕ) → RunEndsSo s cost k e console → IsOutcome e console
