-- The parts of a line's meaning that the reader's functions give.
use Rattle.std.specs.Prelude.{◌≡◌, ℕ, ◌<◌, List, [], ◌∷◌, Option, Some, None, length}
use Rattle.mach_types.specs.declared.events.Hart.{Hart}
use Rattle.mach_types.specs.declared.events.Kind.{Kind}
use Rattle.step_log.specs.Script.{fields_of, line_meaning, lines_of, tid_read, pc_read, run_line, whole_line, ◌>>=◌}
use Rattle.step_log.specs.declared.fields.Line.{Line}

-- the fields behind a space, none where there is no space
abbrev pub fields_left : Option (List ℕ) → List (List ℕ)
fields_left None = []
fields_left (Some text) = fields_of text

-- what the fields behind the kind say: the thread, and the pc if there is one
abbrev pub long_meaning : Hart → Kind → List (List ℕ) → Option Line
long_meaning hart kind [] = None
long_meaning hart kind (tid ∷ []) = do
  t ← tid_read tid
  run_line hart kind t
long_meaning hart kind (tid ∷ pc ∷ []) = do
  t ← tid_read tid
  p ← pc_read pc
  Some (whole_line (record { hart = hart; kind = kind; tid = t; pc = p }))
long_meaning hart kind (tid ∷ pc ∷ another ∷ more) = None

-- the first line of a text says this, and this text comes behind it
pub record IsFirst (text : List ℕ) (line : Line) (behind : List ℕ) : Type 0 where
  pub first : List ℕ
  pub lines : lines_of text ≡ first ∷ lines_of behind
  pub says : line_meaning first ≡ Some line
  pub shorter : length behind < length text
