-- Whole runs, and machines on their way.
use Rattle.std.specs.Prelude.{ℕ, ◌≡◌, ◌≢◌, ◌+◌, ◌<◌, Bool, false, IsTrue, List, Some, length, map}
use Rattle.mach_types.specs.declared.events.Entry.{Entry}
use Rattle.mach_types.specs.declared.limits.End.TheVariants.{Unended}
use Rattle.block_model.specs.Choosing.{IsChosen}
use Rattle.block_model.specs.Deciding.{history, end_of}
use Rattle.block_model.specs.Replay.{Ask, AllAnswer, IsFirstBad}
use Rattle.block_model.specs.Run.{IsBlockRun}
use Rattle.block_model.specs.Setting.{Setting, Seen}
use Rattle.block_model.specs.Solo.{IsSolo}
use Rattle.whole_runs.specs.Asks.{asks_of}

-- a whole run on one hart by the fixed rule: each entry is allowed at its place and is the rule's choice
-- there, and the run isn't left open
pub record IsSoloRun (s : Setting) (log : List Entry) : Type 0 where
  pub block_run : IsBlockRun s log
  pub rule : IsSolo s log
  pub over : end_of s (history s log) ≢ Unended

-- a whole run by workers: each entry is allowed at its place and is the choice of its hart there by this seed, and
-- the run isn't left open
pub record IsChosenRun (s : Setting) (seed : ℕ) (log : List Entry) : Type 0 where
  pub block_run : IsBlockRun s log
  pub chosen : IsChosen s seed log
  pub over : end_of s (history s log) ≢ Unended

-- a whole run of a script: each line can be read, each entry is allowed at its place, and the log has one
-- entry for each line, in order, of the hart and the event that it asks for, and with the thread and the pc
-- that it says
pub record IsPlayedRun (s : Setting) (text : List ℕ) (log : List Entry) : Type 0 where
  pub lines : List Ask
  pub readable : asks_of text ≡ map Some lines
  pub block_run : IsBlockRun s log
  pub answers : AllAnswer lines log

-- the line of this number is the first of a script that is malformed, whose event isn't allowed, or whose
-- thread or pc differs
abbrev pub IsFirstBadLine : Setting → List ℕ → ℕ → Type 0
IsFirstBadLine s text number = IsFirstBad s (asks_of text) number

-- a machine on its way by the fixed rule
pub record IsSoloSoFar (m : Seen) : Type 0 where
  pub block_run : IsBlockRun m.setting m.log
  pub rule : IsSolo m.setting m.log

-- a machine on its way by the fixed rule made one event more, or its run is over
pub record IsSoloTurn (old new : Seen) (made : Bool) : Type 0 where
  pub setting : new.setting ≡ old.setting
  pub so_far : IsSoloSoFar new
  pub room : IsTrue made → length old.log < old.setting.limits.steps
  pub longer : IsTrue made → length new.log ≡ length old.log + 1
  pub over : made ≡ false → end_of new.setting (history new.setting new.log) ≢ Unended

-- a machine at the end of a whole run by the fixed rule from this setting
pub record IsWholeSolo (s : Setting) (m : Seen) : Type 0 where
  pub setting : m.setting ≡ s
  pub run : IsSoloRun s m.log

-- a machine at the end of a whole run by workers from this setting, who choose by this seed
pub record IsWholeRun (s : Setting) (seed : ℕ) (m : Seen) : Type 0 where
  pub setting : m.setting ≡ s
  pub run : IsChosenRun s seed m.log

-- a machine at the end of a whole run of a script from this setting
pub record IsWholePlay (s : Setting) (text : List ℕ) (m : Seen) : Type 0 where
  pub setting : m.setting ≡ s
  pub run : IsPlayedRun s text m.log
