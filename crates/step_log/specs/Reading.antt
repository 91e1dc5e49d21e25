-- Reading a script line by line.
use Rattle.std.specs.Prelude.{ℕ, ◌+◌, List, [], ◌∷◌, Option, Some, None, Result, Ok, Err}
use Rattle.step_log.specs.Script.{line_meaning, lines_of}
use Rattle.step_log.specs.declared.fields.Line.{Line}
use Rattle.step_log.specs.declared.reading.BadLine.{BadLine}

-- what is left of a script: the lines that weren't read yet, and how many were read
pub record Unread : Type 0 where
  pub left : List (List ℕ)
  pub read : ℕ

-- a whole script, before its first line
abbrev pub unread : List ℕ → Unread
unread bytes = record { left = lines_of bytes; read = 0 }

-- the answer at a line of this number: what it says, or that it is malformed
abbrev pub answer_at : Option Line → ℕ → Result (Option Line) BadLine
answer_at None number = Err (record { 0 = number })
answer_at (Some line) number = Ok (Some line)

-- the answer to reading on: none at the end, else that of the next line, which has the next number
abbrev pub answer_to : List (List ℕ) → ℕ → Result (Option Line) BadLine
answer_to [] read = Ok None
answer_to (text ∷ texts) read = answer_at (line_meaning text) (read + 1)

abbrev pub next_answer : Unread → Result (Option Line) BadLine
next_answer u = answer_to u.left u.read

-- what is left after a line that says something; a malformed one stays the next
abbrev pub left_past : Option Line → List ℕ → List (List ℕ) → ℕ → Unread
left_past None text texts read = record { left = text ∷ texts; read = read }
left_past (Some line) text texts read = record { left = texts; read = read + 1 }

abbrev pub left_after : List (List ℕ) → ℕ → Unread
left_after [] read = record { left = []; read = read }
left_after (text ∷ texts) read = left_past (line_meaning text) text texts read

abbrev pub after_next : Unread → Unread
after_next u = left_after u.left u.read
