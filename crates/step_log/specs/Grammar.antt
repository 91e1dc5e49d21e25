-- The grammar of a script's lines, by what they say: each line that says something is written in just one way.
use Rattle.std.specs.Prelude.{◌≡◌, ℕ, ◌^◌, ◌<◌, List, [], ◌∷◌, Option, Some, None, IfSome}
use Rattle.std.specs.Fmt.{decimal}
use Rattle.std.specs.List.{join_with_byte, flat_map}
use Rattle.std.specs.Option.{option_map_or}
use Rattle.mach_types.specs.Events.{begun_by, kind_of}
use Rattle.mach_types.specs.declared.events.Choice.{Choice}
use Rattle.mach_types.specs.declared.events.Entry.{Entry}
use Rattle.mach_types.specs.declared.events.Tid.{Tid}
use Rattle.step_log.specs.Text.{space, hart_text, kind_word, hex_text, entry_text}
use Rattle.step_log.specs.declared.fields.Line.{Line}

-- the thread of a `run` without a check
abbrev pub run_field : Choice → List (List ℕ)
run_field choice = option_map_or (λ (tid : Tid). decimal tid.0 ∷ []) (begun_by choice) []

-- the fields behind the kind
abbrev pub fields_behind : Choice → Option (Tid × ℕ) → List (List ℕ)
fields_behind choice None = run_field choice
fields_behind choice (Some check) = decimal check.0.0 ∷ hex_text 16 check.1 ∷ []

-- the fields of a line that says this
abbrev pub line_fields : Line → List (List ℕ)
line_fields l = hart_text l.hart.0 ∷ kind_word (kind_of l.choice) ∷ fields_behind l.choice l.check

-- its text: the fields, one space apart
abbrev pub line_text : Line → List ℕ
line_text l = join_with_byte space (line_fields l)

-- the thread of a `run`, if the choice is one, is this one
abbrev pub RunsThat : Choice → Tid → Type 0
RunsThat choice t = IfSome (begun_by choice) (λ tid. tid ≡ t)

-- a `run` has a thread number below 2 ^ 32
abbrev pub IsChoice : Choice → Type 0
IsChoice choice = IfSome (begun_by choice) (λ tid. tid.0 < 2 ^ 32)

-- a check has a thread number below 2 ^ 32 and a pc below 2 ^ 64; that of a `run` names its thread
abbrev pub IsCheckOf : Choice → Option (Tid × ℕ) → Type 0
IsCheckOf choice None = Unit {0}
IsCheckOf choice (Some check) = (check.0.0 < 2 ^ 32) × (check.1 < 2 ^ 64) × RunsThat choice check.0

-- what a line can say: harts are 0 to 7
pub record IsLine (l : Line) : Type 0 where
  pub hart : l.hart.0 < 8
  pub choice : IsChoice l.choice
  pub check : IsCheckOf l.choice l.check

-- an entry that can be printed
pub record IsPrintable (e : Entry) : Type 0 where
  pub hart : e.hart.0 < 8
  pub thread : e.tid.0 < 2 ^ 32
  pub pc : e.pc < 2 ^ 64

-- the text of a whole log
abbrev pub log_text : List Entry → List ℕ
log_text log = flat_map entry_text log
