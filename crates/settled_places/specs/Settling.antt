-- A run that goes on by local steps until its place is one that a search has stored (own).
use Rattle.std.specs.Prelude.{ℕ, ◌≡◌, ◌<◌, Bool, true, List, [], ◌∷◌, ◌++◌, Some, Contains}
use Rattle.mach_types.specs.Events.{choice_of}
use Rattle.mach_types.specs.Kernel.Threads.{running_on}
use Rattle.mach_types.specs.declared.events.Choice.TheVariants as asked
use Rattle.mach_types.specs.declared.events.Entry.{Entry}
use Rattle.mach_types.specs.declared.threads.Saved.{Saved}
use Rattle.block_model.specs.Plain.{plain_after}
use Rattle.block_model.specs.Run.{IsBlockRun}
use Rattle.block_model.specs.Setting.{Setting}
use Rattle.local_steps.specs.LocalSteps.{IsStepAt}
use Rattle.local_steps.specs.Resting.{RestsOutside}
use Rattle.prompt_runs.specs.Owed.{owed_after}
use Rattle.prompt_runs.specs.Prompt.{IsInTime}
use Rattle.search_reductions.specs.declared.signals.Signals.{Signals}
use Rattle.same_places.specs.Places.{IsCarried, IsSamePlace}

-- the threads whose local steps a search makes at once
abbrev pub settles_of : (ℕ → Bool) → ℕ → Type 0
settles_of threads t = threads t ≡ true

-- the next entry of a run is an instruction of a thread that settles. It is a local step, before and after
-- which the thread is outside what its area looks at; it comes in time; and the choice is carried from this
-- place to each that is the same
pub record IsSettlingStep (s : Setting) (signals : Signals) (threads : ℕ → Bool) (private : ℕ → ℕ → Bool)
    (log : List Entry) (e : Entry) : Type 0 where
  pub thread : ℕ
  pub file : Saved
  pub run : IsBlockRun s (log ++ e ∷ [])
  pub is_exec : choice_of e ≡ asked.Exec
  pub runs : running_on e.hart.0 (plain_after s log).kernel.threads ≡ Some thread
  pub local : IsStepAt s private thread file (plain_after s log)
  pub rests : RestsOutside (settles_of threads) thread file (plain_after s log)
  pub in_time : IsInTime (plain_after s log) (owed_after signals s log) e.hart.0 asked.Exec
  pub carried : IsCarried s (plain_after s log) e.hart.0 asked.Exec

-- each of these entries is such a step, at the end of the log and those before it
abbrev pub AreSettlingSteps : Setting → Signals → (ℕ → Bool) → (ℕ → ℕ → Bool) → List Entry → List Entry
    → Type 0
AreSettlingSteps s signals threads private log [] = Unit {0}
AreSettlingSteps s signals threads private log (e ∷ more) =
    IsSettlingStep s signals threads private log e
    × AreSettlingSteps s signals threads private (log ++ e ∷ []) more

-- some such steps, or none, lead from the end of the log to the same place as one of the logs that are
-- stored, and there the same harts owe their thread a signal
pub record SettlesBack (s : Setting) (signals : Signals) (threads : ℕ → Bool) (private : ℕ → ℕ → Bool)
    (logs : List (List Entry)) (log : List Entry) : Type 0 where
  pub more : List Entry
  pub steps : AreSettlingSteps s signals threads private log more
  pub other : List Entry
  pub stored : Contains logs other
  pub same : IsSamePlace s (plain_after s other) (plain_after s (log ++ more))
  pub owed : (h : ℕ) → h < s.limits.harts
      → owed_after signals s other h ≡ owed_after signals s (log ++ more) h
