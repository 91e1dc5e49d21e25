-- The output of a command, and what ended otherwise in it than was expected.
use Rattle.std.specs.Prelude.{ℕ, ◌≡◌, List, Option, Some, None}
use Rattle.command_words.specs.Commands.{Command, Runs, Makes, Tries, Explores, Searches, Pairs}
use Rattle.call_reasons.specs.declared.reasons.OtherEnd.{OtherEnd}
use Rattle.outcomes.specs.Explorations.{IsJudgedExploration}
use Rattle.outcomes.specs.Outputs.{IsOutputOf}
use Rattle.outcomes.specs.Programs.{Files}

-- the output of a command that expects nothing
abbrev pub IsUnjudged : Files → Command → Option OtherEnd → List ℕ → Type 0
IsUnjudged files command other written = (other ≡ None) × IsOutputOf files (Some command) written

-- the output of a command, and the first outcome of it that ended otherwise than was expected, if one did: an exploration alone may
-- expect something
abbrev pub IsJudged : Files → Option Command → Option OtherEnd → List ℕ → Type 0
IsJudged files None other written = ⊥
IsJudged files (Some (Runs run)) other written = IsUnjudged files (Runs run) other written
IsJudged files (Some (Makes guest)) other written = IsUnjudged files (Makes guest) other written
IsJudged files (Some (Tries trial)) other written = IsUnjudged files (Tries trial) other written
IsJudged files (Some (Explores program settings)) other written =
    IsJudgedExploration files program settings other written
IsJudged files (Some (Searches program settings)) other written =
    IsUnjudged files (Searches program settings) other written
IsJudged files (Some (Pairs pair)) other written = IsUnjudged files (Pairs pair) other written

-- the output of a command in which all is as was expected
abbrev pub IsMet : Files → Option Command → List ℕ → Type 0
IsMet files command written = IsJudged files command None written

-- the output of a command of which something ended otherwise
abbrev pub IsUnmet : Files → Option Command → List ℕ → Type 0
IsUnmet files command written = (other : OtherEnd) × IsJudged files command (Some other) written

-- the exit status that goes with an output
abbrev pub output_status : Option OtherEnd → ℕ
output_status None = 0
output_status (Some other) = 1
