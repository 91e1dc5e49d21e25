-- Whole drawn runs (own).
use Rattle.std.specs.Prelude.{◌≡◌, ◌≢◌, List}
use Rattle.mach_types.specs.declared.events.Entry.{Entry}
use Rattle.mach_types.specs.declared.limits.End.TheVariants.{Unended}
use Rattle.block_model.specs.Deciding.{end_of, history}
use Rattle.block_model.specs.Run.{IsBlockRun}
use Rattle.block_model.specs.Setting.{Seen, Setting}
use Rattle.drawn_runs.specs.declared.manner.Manner.{Manner}
use Rattle.drawn_runs.specs.DrawnRuns.{IsDrawn}

-- each entry is allowed at its place and is the one that is drawn there, and the run isn't left open
pub record IsDrawnRun (s : Setting) (m : Manner) (log : List Entry) : Type 0 where
  pub block_run : IsBlockRun s log
  pub drawn : IsDrawn s m log
  pub over : end_of s (history s log) ≢ Unended

-- a machine at the end of such a run from this setting
pub record IsWholeDrawn (s : Setting) (m : Manner) (seen : Seen) : Type 0 where
  pub setting : seen.setting ≡ s
  pub run : IsDrawnRun s m seen.log
