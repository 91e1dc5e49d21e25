-- A pair and a reader, between two lines of a script.
use Rattle.std.specs.Prelude.{ℕ, ◌≡◌, ◌++◌, List, Some, map}
use Rattle.step_log.specs.Reading.{Unread}
use Rattle.step_log.specs.Script.{lines_of}
use Rattle.block_model.specs.Replay.{Ask, AllAnswer}
use Rattle.shared_procs.specs.PairRuns.{IsPairRun, PairSeen}
use Rattle.whole_runs.specs.Asks.{ask_in}

-- the lines that were read can be read, and the pair's log is a pair run that answers them; the others are left
pub record IsPlayingPair (text : List ℕ) (v : PairSeen) (r : Unread) : Type 0 where
  pub earlier : List (List ℕ)
  pub asks : List Ask
  pub parts : lines_of text ≡ earlier ++ r.left
  pub readable : map ask_in earlier ≡ map Some asks
  pub pair_run : IsPairRun v.setting v.log
  pub answers : AllAnswer asks v.log
