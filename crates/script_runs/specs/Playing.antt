-- A machine and a reader, between two lines of a script.
use Rattle.std.specs.Prelude.{ℕ, ◌≡◌, ◌++◌, List, Ok, Some, map}
use Rattle.step_log.specs.Reading.{Unread}
use Rattle.step_log.specs.Script.{lines_of}
use Rattle.block_model.specs.Replay.{Ask, played}
use Rattle.block_model.specs.Setting.{Seen}
use Rattle.whole_runs.specs.Asks.{ask_in}

-- the lines that were read can be read, and made the machine's log; the others are left
pub record IsPlaying (text : List ℕ) (m : Seen) (r : Unread) : Type 0 where
  pub earlier : List (List ℕ)
  pub asks : List Ask
  pub parts : lines_of text ≡ earlier ++ r.left
  pub readable : map ask_in earlier ≡ map Some asks
  pub allowed : played m.setting asks ≡ Ok m.log
