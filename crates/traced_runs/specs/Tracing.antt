-- A log that is told, entry by entry, as it is made.
use Rattle.std.specs.Prelude.{◌≡◌, ℕ, List, [], ◌++◌, Option, Some, None}
use Rattle.mach_types.specs.declared.events.Choice.TheVariants as asked
use Rattle.step_log.specs.declared.fields.Line.{Line}
use Rattle.block_model.specs.Replay.{made_by}
use Rattle.block_model.specs.Run.{IsBlockRun}
use Rattle.block_model.specs.Setting.{Seen}
use Rattle.block_view.specs.Ledgers.{kept_in}
use Rattle.block_view.specs.Following.{IsFollowing}
use Rattle.block_view.specs.Passing.{IsAhead, IsMadeBy}
use Rattle.block_view.specs.declared.turns.Turn.{Turn}
use Rattle.fact_types.specs.declared.facts.Fact.{Fact}
use Rattle.event_facts.specs.Telling.{past_of}
use Rattle.event_facts.specs.Tied.{AreLinesOf}
use Rattle.event_facts.specs.Freely.{IsMadeFreely}
use Rattle.event_facts.specs.Trace.{trace_of}
use Rattle.event_facts.specs.declared.lines.Lines.{Lines}
use Rattle.command_words.specs.declared.commands.LineSpan.{LineSpan}
use Rattle.whole_runs.specs.Asks.{ask_of}
use Rattle.trace_text.specs.Traces.{events_text, turn_line}
use Rattle.traced_runs.specs.declared.tracing.Followed.{Followed}
use Rattle.traced_runs.specs.declared.tracing.Made.{Made}

-- what is followed of a machine's log: its lines, and its restartable sequences
pub record IsFollowed (m : Seen) (x : Followed) : Type 0 where
  pub lines : AreLinesOf m.setting.limits.harts (past_of m) x.lines
  pub sequences : IsFollowing m (kept_in x.ledger)

-- the line of what an event makes of the sequences, of which at most one begins or ends
abbrev pub turn_text : Option Turn → List ℕ
turn_text None = []
turn_text (Some turn) = turn_line turn

-- a machine's log is told so far: this is followed of it, and this is the text of its entries
pub record IsTraced (span : LineSpan) (m : Seen) (x : Followed) (lines : List ℕ) : Type 0 where
  pub run : IsBlockRun m.setting m.log
  pub followed : IsFollowed m x
  pub text : lines ≡ events_text span m.setting [] m.log

-- a machine made an entry next, of which these are the facts; this is followed of its log before it, but for the lines,
-- which are those with it
pub record IsMadeNext (m m' : Seen) (x : Followed) (event : Made) (facts : List Fact) : Type 0 where
  pub made : IsMadeBy m m' event.entry
  pub run : IsBlockRun m.setting m.log
  pub lines : AreLinesOf m'.setting.limits.harts (past_of m') x.lines
  pub sequences : IsFollowing m (kept_in x.ledger)
  pub ahead : IsAhead m event.entry event.ahead
  pub told : facts ≡ trace_of m.setting (past_of m) event.entry

-- it is what a line asks for and says, and was told behind other facts; and these are the lines with it
pub record IsMadeLine (m m' : Seen) (line : Line) (facts facts' : List Fact) (kept : Lines) (event : Made) : Type 0 where
  pub by_line : made_by m.setting m.log (ask_of line) ≡ Some event.entry
  pub made : IsMadeBy m m' event.entry
  pub lines : AreLinesOf m'.setting.limits.harts (past_of m') kept
  pub ahead : IsAhead m event.entry event.ahead
  pub told : facts' ≡ facts ++ trace_of m.setting (past_of m) event.entry

-- a line asks for an instruction, which sets a register and the pc alone, and it was made
pub record IsFree (m m' : Seen) (line : Line) (facts facts' : List Fact) (event : Made) : Type 0 where
  pub choice : line.choice ≡ asked.Exec
  pub ahead : IsAhead m event.entry event.ahead
  pub made : IsMadeFreely m m' line.hart.0 facts facts' event.entry
