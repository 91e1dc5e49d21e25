-- Whole runs of two processes by a script (own).
use Rattle.std.specs.Prelude.{ℕ, ◌+◌, ◌≡◌, List, ◌∷◌, ◌++◌, Option, Some, None, Result, Ok, Err, if◌then◌else◌, length, map}
use Rattle.mach_types.specs.declared.events.Entry.{Entry}
use Rattle.mach_types.specs.declared.events.Tid.{Tid}
use Rattle.block_model.specs.Replay.{Ask, AllAnswer, is_as_said}
use Rattle.shared_procs.specs.Pairs.{Pair, PairSetting}
use Rattle.shared_procs.specs.PairRuns.{IsPairRun, PairSeen, pair_decide, pair_seen}
use Rattle.shared_procs.specs.declared.outcomes.PairRefused.{PairRefused}
use Rattle.whole_runs.specs.Asks.{asks_of}

-- the entry of an event that is allowed, where it is as the line says
abbrev pub checked_two : Option (Tid × ℕ) → Result Entry PairRefused → Option Entry
checked_two check (Ok e) = if is_as_said check e then Some e else None
checked_two check (Err refused) = None

-- the entry that a line makes where a pair stands; none where it can't be read, where its event isn't allowed, or isn't as the
-- line says
abbrev pub made_two : PairSetting → Pair → Option Ask → Option Entry
made_two s m None = None
made_two s m (Some line) = checked_two line.check (pair_decide s m line.hart.0 line.choice)

-- where a pair stands after a log
abbrev pub pair_at : PairSetting → List Entry → Pair
pair_at s log = pair_seen (record { setting = s; log = log })

-- a whole run of a script: each line can be read, each entry is allowed at its place, and the log has one entry for each line, in
-- order, of the hart and the event that it asks for, and with the thread and the pc that it says
pub record IsPlayedPair (s : PairSetting) (text : List ℕ) (log : List Entry) : Type 0 where
  pub lines : List Ask
  pub readable : asks_of text ≡ map Some lines
  pub pair_run : IsPairRun s log
  pub answers : AllAnswer lines log

-- the line of this number is the first of a script that is malformed, whose event isn't allowed, or whose thread or pc differs: the
-- lines before it can be read and make a log, after which it makes no entry
pub record IsFirstBadOfPair (s : PairSetting) (text : List ℕ) (n : ℕ) : Type 0 where
  pub earlier : List Ask
  pub line : Option Ask
  pub later : List (Option Ask)
  pub log : List Entry
  pub parts : asks_of text ≡ map Some earlier ++ line ∷ later
  pub number : n ≡ length earlier + 1
  pub pair_run : IsPairRun s log
  pub answers : AllAnswer earlier log
  pub refused : made_two s (pair_at s log) line ≡ None

-- a pair at the end of a whole run of a script from this setting
pub record IsWholePair (s : PairSetting) (text : List ℕ) (v : PairSeen) : Type 0 where
  pub setting : v.setting ≡ s
  pub run : IsPlayedPair s text v.log
