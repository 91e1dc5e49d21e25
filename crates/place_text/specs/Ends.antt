-- The line of a run's end, and the text of its console (own).
use Rattle.std.specs.Prelude.{ℕ, List, [], ◌∷◌, ◌++◌, codes, length}
use Rattle.std.specs.Fmt.{decimal}
use Rattle.mach_types.specs.declared.limits.End.{End}
use Rattle.mach_types.specs.declared.limits.End.TheVariants.{Exit, Killed, Stuck, Limit, Unended}
use Rattle.step_log.specs.Text.{newline, space}

-- a line of some words and a number
abbrev pub number_line : List ℕ → ℕ → List ℕ
number_line words number = words ++ space ∷ decimal number ++ newline ∷ []

-- a console's length, its bytes, and a newline
abbrev pub console_text : List ℕ → List ℕ
console_text console = number_line (codes "console") (length console) ++ console ++ newline ∷ []

-- how the run ended
abbrev pub end_line : End → List ℕ
end_line (Exit status) = number_line (codes "end exit") status
end_line (Killed signal) = number_line (codes "end killed") signal
end_line Stuck = codes "end stuck\n"
end_line Limit = codes "end limit\n"
end_line Unended = codes "end open\n"
