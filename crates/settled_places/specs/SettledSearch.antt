-- What a search has to establish of the logs that it stored, where it stores a place only after the local
-- steps of its threads (own).
use Rattle.std.specs.Prelude.{ℕ, ◌≡◌, ◌<◌, ◌≤◌, Bool, List, [], ◌∷◌, ◌++◌, length, None, All, Contains}
use Rattle.mach_types.specs.Events.{choice_of}
use Rattle.mach_types.specs.declared.events.Choice.{Choice}
use Rattle.mach_types.specs.declared.events.Entry.{Entry}
use Rattle.block_model.specs.Events.{refusal_of}
use Rattle.block_model.specs.Plain.{here_in_plain, plain_after, plain_over}
use Rattle.block_model.specs.Run.{IsBlockRun}
use Rattle.block_model.specs.Setting.{Setting}
use Rattle.local_steps.specs.Resting.{LeavesAreas}
use Rattle.prompt_runs.specs.Owed.{owed_after}
use Rattle.prompt_runs.specs.Prompt.{IsInTime, IsSpokenOf}
use Rattle.search_reductions.specs.declared.signals.Signals.{Signals}
use Rattle.same_places.specs.Places.{IsCarried, plain_after_choice}
use Rattle.same_places.specs.Searched.{IsOpen}
use Rattle.settled_places.specs.Settling.{SettlesBack, settles_of}

-- the event of a choice after a log, whose entry this is, settles back
pub record LeadsToStored (s : Setting) (signals : Signals) (threads : ℕ → Bool) (private : ℕ → ℕ → Bool)
    (logs : List (List Entry)) (log : List Entry) (h : ℕ) (c : Choice) : Type 0 where
  pub entry : Entry
  pub hart : entry.hart.0 ≡ h
  pub choice : choice_of entry ≡ c
  pub next : plain_after s (log ++ entry ∷ []) ≡ plain_after_choice s (plain_after s log) h c
  pub settles : SettlesBack s signals threads private logs (log ++ entry ∷ [])

-- a log that was visited has a choice to try there, which comes in time
pub record IsOpenInTime (s : Setting) (signals : Signals) (logs : List (List Entry)) (log : List Entry)
    (h : ℕ) (c : Choice) : Type 0 where
  pub opens : IsOpen s logs log h c
  pub in_time : IsInTime (plain_after s log) (owed_after signals s log) h c

-- the logs are those that a finished search stored: each is a block run that is spoken of, with room for one
-- more event unless it is over; the start settles back to one of them; and each choice that has to be tried
-- after one of them, and comes in time, is carried. Where it is allowed, it changes nothing that the areas of
-- settling threads look at, no byte that is private to one of them, and begins no handler of one of them; and
-- its event settles back to one of the logs
pub record IsSettledSearch (s : Setting) (signals : Signals) (threads : ℕ → Bool) (private : ℕ → ℕ → Bool)
    (logs : List (List Entry)) : Type 0 where
  pub steps : s.limits.steps ≤ 1000000
  pub runs : All (IsBlockRun s) logs
  pub spoken : All (IsSpokenOf signals s) logs
  pub room : (log : List Entry) → Contains logs log → plain_over (plain_after s log) ≡ None
      → length log < s.limits.steps
  pub start : SettlesBack s signals threads private logs []
  pub carried : (log : List Entry) (h : ℕ) (c : Choice) → IsOpenInTime s signals logs log h c
      → IsCarried s (plain_after s log) h c
  pub calm : (log : List Entry) (h : ℕ) (c : Choice) → IsOpenInTime s signals logs log h c
      → refusal_of c (here_in_plain s (plain_after s log) h) ≡ None
      → LeavesAreas s (settles_of threads) private (plain_after s log) (h, c)
  pub next : (log : List Entry) (h : ℕ) (c : Choice) → IsOpenInTime s signals logs log h c
      → refusal_of c (here_in_plain s (plain_after s log) h) ≡ None
      → LeadsToStored s signals threads private logs log h c
