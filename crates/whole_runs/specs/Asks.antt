-- What the lines of a script ask for.
use Rattle.std.specs.Prelude.{ℕ, List, Option, map}
use Rattle.std.specs.Option.{option_map}
use Rattle.step_log.specs.Script.{line_meaning, lines_of}
use Rattle.step_log.specs.declared.fields.Line.{Line}
use Rattle.block_model.specs.Replay.{Ask}

-- what a line of a script asks for
abbrev pub ask_of : Line → Ask
ask_of line = record { hart = line.hart; choice = line.choice; check = line.check }

-- what each line of a script asks for; none at a malformed one
abbrev pub ask_in : List ℕ → Option Ask
ask_in line = option_map ask_of (line_meaning line)

abbrev pub asks_of : List ℕ → List (Option Ask)
asks_of text = map ask_in (lines_of text)
