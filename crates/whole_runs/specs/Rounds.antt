-- Runs by rounds (own). In each round the harts 0, 1 and so on each make their choice of `run` by the seed, where they
-- have one; where the run has ended, none has. The log doesn't show its rounds.
use Rattle.std.specs.Prelude.{ℕ, ◌≡◌, ◌≢◌, ◌++◌, List, [], zero, suc}
use Rattle.std.specs.Option.{option_to_list}
use Rattle.mach_types.specs.declared.events.Entry.{Entry}
use Rattle.mach_types.specs.declared.limits.End.TheVariants.{Unended}
use Rattle.block_model.specs.Choosing.{next_entry}
use Rattle.block_model.specs.Deciding.{end_of, history}
use Rattle.block_model.specs.Run.{IsBlockRun}
use Rattle.block_model.specs.Setting.{Seen, Setting}

-- the log after a hart's turn: with the entry of its choice, where it has one
abbrev pub after_turn : Setting → ℕ → ℕ → List Entry → List Entry
after_turn s seed h log = log ++ option_to_list (next_entry s seed h (history s log))

-- the log after the turns of the first harts, so many, in rising order
abbrev pub after_turns : Setting → ℕ → List Entry → ℕ → List Entry
after_turns s seed log zero = log
after_turns s seed log (suc h) = after_turn s seed h (after_turns s seed log h)

-- the log after a round: the turns of all harts
abbrev pub after_round : Setting → ℕ → List Entry → List Entry
after_round s seed log = after_turns s seed log s.limits.harts

-- the log after so many rounds
abbrev pub after_rounds : Setting → ℕ → ℕ → List Entry
after_rounds s seed zero = []
after_rounds s seed (suc n) = after_round s seed (after_rounds s seed n)

-- the log by rounds: as many as a log may have entries, since each round makes one until the run has ended
unfoldable pub log_by_rounds : Setting → ℕ → List Entry
log_by_rounds s seed = after_rounds s seed s.limits.steps

-- a whole run by rounds: each entry is allowed at its place, the log is the one by rounds, and the run isn't left open
pub record IsRoundsRun (s : Setting) (seed : ℕ) (log : List Entry) : Type 0 where
  pub block_run : IsBlockRun s log
  pub rounds : log ≡ log_by_rounds s seed
  pub over : end_of s (history s log) ≢ Unended

-- a machine at the end of a whole run by rounds from this setting, whose harts choose by this seed
pub record IsWholeRounds (s : Setting) (seed : ℕ) (m : Seen) : Type 0 where
  pub setting : m.setting ≡ s
  pub run : IsRoundsRun s seed m.log
