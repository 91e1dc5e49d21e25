-- The lines of a log that are made where they are written.
use Rattle.std.specs.Prelude.{ℕ, ◌<◌, All, List, [], Option, Some, None}
use Rattle.mach_types.specs.declared.events.Entry.{Entry}
use Rattle.step_log.specs.Grammar.{log_text}
use Rattle.run_texts.specs.declared.output.Lines.{Lines}
use Rattle.run_texts.specs.declared.output.Log.{Log}
use Rattle.run_texts.specs.declared.output.Log.TheVariants.{OfMachine, Own}

-- the entries of a log
abbrev pub entries_of : Log → List Entry
entries_of (OfMachine machine) = machine.value.log
entries_of (Own entries) = entries.items

-- the text of its lines, where there are any
abbrev pub lines_text : Option Lines → List ℕ
lines_text None = []
lines_text (Some lines) = log_text (entries_of lines.log)

-- each hart in it is a digit
abbrev pub AreDigits : Option Lines → Type 0
AreDigits None = Unit {0}
AreDigits (Some lines) = All (λ (e : Entry). e.hart.0 < 8) (entries_of lines.log)

-- what stands behind them
abbrev pub tail_text : Option Lines → List ℕ
tail_text None = []
tail_text (Some lines) = lines.tail.items
