-- The text of a run (own). Characters are ASCII codes, and numbers are decimal where nothing else is said.
use Rattle.std.specs.Prelude.{ℕ, List, ◌++◌, length, codes}
use Rattle.mach_types.specs.declared.events.Entry.{Entry}
use Rattle.mach_types.specs.declared.limits.End.{End}
use Rattle.step_log.specs.Grammar.{log_text}
use Rattle.place_text.specs.Ends.{end_line, number_line}
pub use Rattle.place_text.specs.Ends.{console_text}

-- how many entries the log has, and its lines
abbrev pub entries_text : List Entry → List ℕ
entries_text log = number_line (codes "log") (length log) ++ log_text log

-- the output text of a run: its console, its log and its end
unfoldable pub output_text : List ℕ → List Entry → End → List ℕ
output_text console log end = console_text console ++ entries_text log ++ end_line end
