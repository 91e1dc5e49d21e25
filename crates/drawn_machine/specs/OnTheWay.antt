-- Drawn runs on their way (own): where a machine has made the events that were drawn so far.
use Rattle.std.specs.Prelude.{◌≡◌, ◌≤◌, length}
use Rattle.drawings.specs.declared.drawing.Drawing.{Drawing}
use Rattle.block_model.specs.Deciding.{history}
use Rattle.block_model.specs.Run.{IsBlockRun}
use Rattle.block_model.specs.Setting.{Seen}
use Rattle.drawn_runs.specs.DrawnRuns.{IsDrawn, drawing_at}
use Rattle.drawn_runs.specs.declared.manner.Manner.{Manner}

-- the log is a block run and has the script's entries; each entry behind these was drawn in this manner, and this drawing is what is
-- kept behind the last
pub record IsOnItsWay (m : Manner) (now : Seen) (d : Drawing) : Type 0 where
  pub scripted : m.scripted ≤ length now.log
  pub block_run : IsBlockRun now.setting now.log
  pub drawn : IsDrawn now.setting m now.log
  pub kept : d ≡ drawing_at now.setting m (history now.setting now.log)

-- so in some manner
abbrev pub IsOnAWay : Seen → Drawing → Type 0
IsOnAWay now d = (m : Manner) × IsOnItsWay m now d

-- in whichever manner a machine came to the one place, it came to the other
abbrev pub GoesOn : Seen → Drawing → Seen → Drawing → Type 0
GoesOn now d next after = (m : Manner) → IsOnItsWay m now d → IsOnItsWay m next after
