-- The texts of a log, with the console and the end that it comes to (own).
use Rattle.std.specs.Prelude.{ℕ, ◌++◌, List}
use Rattle.mach_types.specs.declared.events.Entry.{Entry}
use Rattle.mach_types.specs.declared.limits.End.{End}
use Rattle.block_model.specs.Setting.{Setting}
use Rattle.block_model.specs.History.{console}
use Rattle.block_model.specs.Deciding.{history, end_of}
use Rattle.block_view.specs.Acts.{acts_of}
use Rattle.run_texts.specs.Summary.{summary_text}
use Rattle.run_texts.specs.Text.{console_text, output_text}

-- the output text of a log: its lines, and the console and the end that it comes to
abbrev pub log_output : Setting → List Entry → List ℕ
log_output s log = output_text (console s (history s log)) log (end_of s (history s log))

-- the summary of a log: its acts counted for each hart, its barriers, and the end that it comes to
abbrev pub log_summary : Setting → List Entry → List ℕ
log_summary s log = summary_text s.limits.harts (acts_of s log) log (end_of s (history s log))

-- what is shown of a trial: the console, and the summary of the log
abbrev pub trial_text : Setting → List ℕ → List Entry → End → List ℕ
trial_text s bytes log end = console_text bytes ++ summary_text s.limits.harts (acts_of s log) log end

-- of a log, with the console and the end that it comes to
abbrev pub tried_text : Setting → List Entry → List ℕ
tried_text s log = trial_text s (console s (history s log)) log (end_of s (history s log))
