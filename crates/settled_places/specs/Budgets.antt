-- What a search has to establish that tries a choice only where a run that comes so far can pay for it:
-- choices cost something, and each run has a budget (own).
use Rattle.std.specs.Prelude.{ℕ, ◌≡◌, ◌≤◌, ◌<◌, ◌+◌, Bool, List, [], length, None, All, Contains}
use Rattle.mach_types.specs.declared.events.Choice.{Choice}
use Rattle.mach_types.specs.declared.events.Choice.TheVariants as asked
use Rattle.mach_types.specs.declared.events.Entry.{Entry}
use Rattle.block_model.specs.Events.{refusal_of}
use Rattle.block_model.specs.Plain.{here_in_plain, plain_after, plain_over}
use Rattle.block_model.specs.Run.{IsBlockRun}
use Rattle.block_model.specs.Setting.{Setting}
use Rattle.local_steps.specs.Resting.{LeavesAreas}
use Rattle.local_steps.specs.Runs.{choices, total}
use Rattle.prompt_runs.specs.Prompt.{IsSpokenOf}
use Rattle.search_reductions.specs.declared.signals.Signals.{Signals}
use Rattle.same_places.specs.Places.{IsCarried}
use Rattle.settled_places.specs.SettledSearch.{IsOpenInTime, LeadsToStored}
use Rattle.settled_places.specs.Settling.{SettlesBack, settles_of}

-- what the choices of a log cost, all told
abbrev pub spent : (Choice → ℕ) → List Entry → ℕ
spent cost log = total cost (choices log)

-- what a choice costs where preemptions are counted
abbrev pub preempt_cost : Choice → ℕ
preempt_cost asked.Exec = 0
preempt_cost asked.Drain = 0
preempt_cost asked.Take = 0
preempt_cost asked.Done = 0
preempt_cost asked.Preempt = 1
preempt_cost (asked.Run t) = 0
preempt_cost asked.Signal = 0

-- a log has some choice to try, which comes in time, and the log and the choice together cost no more than k
pub record IsOpenWithin (s : Setting) (signals : Signals) (cost : Choice → ℕ) (k : ℕ)
    (logs : List (List Entry)) (log : List Entry) (h : ℕ) (c : Choice) : Type 0 where
  pub opens : IsOpenInTime s signals logs log h c
  pub cheap : spent cost log + cost c ≤ k

-- the logs are those that a finished search stored whose runs have a budget of k. All is as it is of a search
-- without one (IsSettledSearch), but that a choice has to be tried only where the log can pay for it; and that
-- what a choice leads back to is a log that has paid no more than this one has then: so whatever a run can
-- still pay for, it can there
pub record IsSettledSearchWithin (s : Setting) (signals : Signals) (threads : ℕ → Bool)
    (private : ℕ → ℕ → Bool) (cost : Choice → ℕ) (k : ℕ) (logs : List (List Entry)) : Type 0 where
  pub steps : s.limits.steps ≤ 1000000
  pub runs : All (IsBlockRun s) logs
  pub spoken : All (IsSpokenOf signals s) logs
  pub room : (log : List Entry) → Contains logs log → plain_over (plain_after s log) ≡ None
      → length log < s.limits.steps
  pub start : (back : SettlesBack s signals threads private logs []) × (spent cost back.other ≤ 0)
  pub carried : (log : List Entry) (h : ℕ) (c : Choice) → IsOpenWithin s signals cost k logs log h c
      → IsCarried s (plain_after s log) h c
  pub calm : (log : List Entry) (h : ℕ) (c : Choice) → IsOpenWithin s signals cost k logs log h c
      → refusal_of c (here_in_plain s (plain_after s log) h) ≡ None
      → LeavesAreas s (settles_of threads) private (plain_after s log) (h, c)
  pub next : (log : List Entry) (h : ℕ) (c : Choice) → IsOpenWithin s signals cost k logs log h c
      → refusal_of c (here_in_plain s (plain_after s log) h) ≡ None
      → (leads : LeadsToStored s signals threads private logs log h c)
      × (spent cost leads.settles.other ≤ spent cost log + cost c)
