-- The text of a trace (own): each line of a log, and below it the facts of its event, a fact a line, and what it makes of the restartable
-- sequences; then the end of the run. Numbers of lines, numbers of threads and lengths are decimal.
use Rattle.std.specs.Prelude.{ℕ, ◌+◌, Bool, ◌&&◌, true, List, [], ◌∷◌, ◌++◌, if◌then◌else◌, Option, Some, None, codes, length, nat_le}
use Rattle.std.specs.Fmt.{decimal}
use Rattle.std.specs.List.{flat_map, range_with_len}
use Rattle.std.specs.Option.{option_map_or}
use Rattle.mach_types.specs.Kernel.Threads.{Threads}
use Rattle.mach_types.specs.declared.events.Entry.{Entry}
use Rattle.mach_types.specs.declared.limits.End.{End}
use Rattle.mach_types.specs.declared.limits.End.TheVariants as over
use Rattle.mach_types.specs.declared.sequences.Seq.{Seq}
use Rattle.mach_types.specs.declared.threads.ThreadState.{ThreadState}
use Rattle.mach_types.specs.declared.threads.ThreadState.TheVariants.{Ready, Running, Waiting}
use Rattle.block_model.specs.Deciding.{end_of, event, history}
use Rattle.block_model.specs.History.{History, kernel}
use Rattle.block_model.specs.Setting.{Setting}
use Rattle.block_view.specs.Turns.{acts_left_open, turns}
use Rattle.block_view.specs.declared.forms.Act.{Act}
use Rattle.block_view.specs.declared.turns.Turn.{Turn}
use Rattle.block_view.specs.declared.turns.Turn.TheVariants.{Begins, Ends}
use Rattle.event_facts.specs.Lines.{next_line}
use Rattle.event_facts.specs.Threads.{state_behind}
use Rattle.event_facts.specs.Trace.{trace_of}
use Rattle.fact_text.specs.Lines.{facts_text}
use Rattle.place_text.specs.Ends.{end_line, number_line}
use Rattle.place_text.specs.Fields.{line, value_text}
use Rattle.place_text.specs.Threads.{state_line}
use Rattle.step_log.specs.Text.{entry_text}
use Rattle.command_words.specs.declared.commands.LineSpan.{LineSpan}
use Rattle.run_texts.specs.Summary.{form_fields}

-- whether the line of a number is told
abbrev pub is_within : LineSpan → ℕ → Bool
is_within span number = nat_le span.from number && option_map_or (nat_le number) span.to true

-- `sequence begins START LENGTH ABORT`: where it begins, its length in bytes, and its abort handler
abbrev pub begins_line : Seq → List ℕ
begins_line q = line (codes "  sequence begins") (value_text q.start ∷ decimal q.length ∷ value_text q.abort ∷ [])

-- `sequence ends FORM first N last N`: how it ended, and the numbers of its first line and its last
abbrev pub ends_line : Act → List ℕ
ends_line act =
    line (codes "  sequence ends")
    (form_fields act.form ++ codes "first" ∷ decimal act.first ∷ codes "last" ∷ decimal act.last ∷ [])

-- what an event makes of the restartable sequences
abbrev pub turn_line : Turn → List ℕ
turn_line (Begins q) = begins_line q
turn_line (Ends act) = ends_line act

-- what is told of an entry after a history: its line, the number of the line, what came of it, and the sequence that begins or has ended
-- with it
unfoldable pub event_text : Setting → History → Entry → List ℕ
event_text s before e =
    entry_text e ++ number_line (codes "  line") (next_line before) ++ facts_text (trace_of s before e)
    ++ flat_map turn_line (turns s (event s before e) before)

-- of entries after a history, in order: of those whose lines are told
abbrev pub events_text : LineSpan → Setting → History → List Entry → List ℕ
events_text span s before [] = []
events_text span s before (e ∷ rest) =
    (if is_within span (next_line before) then event_text s before e else [])
    ++ events_text span s (event s before e ∷ before) rest

-- `thread T waiting AT`, of one that waits
abbrev pub waiting_line : ℕ → Option ThreadState → List ℕ
waiting_line t None = []
waiting_line t (Some Ready) = []
waiting_line t (Some (Running hart)) = []
waiting_line t (Some (Waiting at)) = state_line t (Waiting at)

-- the lines of all that wait, in rising order of number
unfoldable pub waiting_text : Threads → List ℕ
waiting_text ts = flat_map (λ k. waiting_line (k + 1) (state_behind ts k)) (range_with_len 0 ts.given)

-- what stands before the end: where the run is stuck, a line for each live thread, since each of them waits there
abbrev pub stuck_text : End → Threads → List ℕ
stuck_text (over.Exit status) ts = []
stuck_text (over.Killed signal) ts = []
stuck_text over.Stuck ts = waiting_text ts
stuck_text over.Limit ts = []
stuck_text over.Unended ts = []

-- how a trace ends, by the place at the end of its log
abbrev pub trace_tail : Setting → History → List ℕ
trace_tail s before =
    stuck_text (end_of s before) (kernel s before).threads ++ end_line (end_of s before)

-- the sequences that no event of a log has ended, below its last line, where that is told
abbrev pub open_text : LineSpan → Setting → List Entry → List ℕ
open_text span s log =
    if is_within span (length log) then flat_map ends_line (acts_left_open s (history s log)) else []

-- the trace of a log from a setting, with the lines of this span
unfoldable pub trace_text : LineSpan → Setting → List Entry → List ℕ
trace_text span s log = events_text span s [] log ++ open_text span s log ++ trace_tail s (history s log)
