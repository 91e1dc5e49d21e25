-- Playing a script: each line asks for an event of a hart, and the events are made in order, from an empty log (own).
use Rattle.std.specs.Prelude.{ℕ, ◌+◌, ◌≡◌, ◌==◌, ◌&&◌, Bool, true, List, [], ◌∷◌, ◌++◌, length, map, fold, if◌then◌else◌, Option, Some, None, Result, Ok, Err}
use Rattle.std.specs.List.{AllZip}
use Rattle.mach_types.specs.Events.{choice_of}
use Rattle.mach_types.specs.declared.events.Choice.{Choice}
use Rattle.mach_types.specs.declared.events.Entry.{Entry}
use Rattle.mach_types.specs.declared.events.Hart.{Hart}
use Rattle.mach_types.specs.declared.events.Tid.{Tid}
use Rattle.block_model.specs.Deciding.{decide, history}
use Rattle.block_model.specs.Setting.{Setting}
use Rattle.block_model.specs.declared.refusals.Refused.{Refused}

-- a line of a script: a hart, what it is asked to do, and the thread and its pc before the event, where the line
-- says them
pub record Ask : Type 0 where
  pub hart : Hart
  pub choice : Choice
  pub check : Option (Tid × ℕ)

-- whether an entry has the thread and the pc that a line says
abbrev pub is_as_said : Option (Tid × ℕ) → Entry → Bool
is_as_said None e = true
is_as_said (Some said) e = (e.tid.0 == said.0.0) && (e.pc == said.1)

-- the entry of an event that is allowed, where it is as the line says
abbrev pub checked : Option (Tid × ℕ) → Result Entry Refused → Option Entry
checked check (Ok e) = if is_as_said check e then Some e else None
checked check (Err why) = None

-- the entry that a line makes after a log; none where its event isn't allowed, or isn't as the line says
abbrev pub made_by : Setting → List Entry → Ask → Option Entry
made_by s log line = checked line.check (decide s (history s log) line.hart.0 line.choice)

-- the log with one more entry; where there is none, the number of the line that was to make it: lines are numbered
-- from 1, and each line before it made an entry
abbrev pub extended : List Entry → Option Entry → Result (List Entry) ℕ
extended log (Some e) = Ok (log ++ e ∷ [])
extended log None = Err (length log + 1)

-- what has been played, with one more line: no line is played after one that is refused
abbrev pub play_line : Setting → Result (List Entry) ℕ → Ask → Result (List Entry) ℕ
play_line s (Ok log) line = extended log (made_by s log line)
play_line s (Err n) line = Err n

-- the log that the lines of a script make, or the number of the first line that is refused
unfoldable pub played : Setting → List Ask → Result (List Entry) ℕ
played s lines = fold (play_line s) (Ok []) lines

-- a script of which some lines can't be read: such a line, None here, makes no entry
abbrev pub made_by_read : Setting → List Entry → Option Ask → Option Entry
made_by_read s log None = None
made_by_read s log (Some line) = made_by s log line

abbrev pub play_read_line : Setting → Result (List Entry) ℕ → Option Ask → Result (List Entry) ℕ
play_read_line s (Ok log) line = extended log (made_by_read s log line)
play_read_line s (Err n) line = Err n

-- the log that the lines of such a script make, or the number of the first line that can't be read or is refused
unfoldable pub played_read : Setting → List (Option Ask) → Result (List Entry) ℕ
played_read s lines = fold (play_read_line s) (Ok []) lines

-- a log read as a script: each line asks for its entry's choice, and says its thread and pc
abbrev pub line_of : Entry → Ask
line_of e = record { hart = e.hart; choice = choice_of e; check = Some (e.tid, e.pc) }

abbrev pub script_of : List Entry → List Ask
script_of log = map line_of log

-- an entry answers a line: it is of the hart and the choice that the line asks for, and as the line says
pub record Answers (line : Ask) (e : Entry) : Type 0 where
  pub of_hart : e.hart.0 ≡ line.hart.0
  pub of_choice : choice_of e ≡ line.choice
  pub as_said : is_as_said line.check e ≡ true

-- a log answers a script: it has one entry for each line, in order, which answers it
abbrev pub AllAnswer : List Ask → List Entry → Type 0
AllAnswer lines log = AllZip Answers lines log

-- a line of a script is the first that is refused: the lines before it make a log, after which it makes no entry
pub record IsFirstRefused (s : Setting) (lines : List Ask) (n : ℕ) : Type 0 where
  pub earlier : List Ask
  pub line : Ask
  pub later : List Ask
  pub log : List Entry
  pub parts : lines ≡ earlier ++ line ∷ later
  pub number : n ≡ length earlier + 1
  pub allowed : played s earlier ≡ Ok log
  pub refused : made_by s log line ≡ None

-- the same of a script of which some lines can't be read: the lines before it can be read and make a log
pub record IsFirstBad (s : Setting) (lines : List (Option Ask)) (n : ℕ) : Type 0 where
  pub earlier : List Ask
  pub line : Option Ask
  pub later : List (Option Ask)
  pub log : List Entry
  pub parts : lines ≡ map Some earlier ++ line ∷ later
  pub number : n ≡ length earlier + 1
  pub allowed : played s earlier ≡ Ok log
  pub refused : made_by_read s log line ≡ None
