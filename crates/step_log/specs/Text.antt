-- The text of a log (own): each entry is a line `HART KIND TID PC`. The hart is one digit, the kind its word,
-- the thread a decimal number, and the pc 16 lower-case hexadecimal digits. Characters are ASCII codes.
use Rattle.std.specs.Prelude.{ℕ, suc, zero, ◌+◌, ◌/◌, ◌%◌, List, [], ◌∷◌, ◌++◌, if◌then◌else◌, nat_lt, codes}
use Rattle.std.specs.Fmt.{decimal}
use Rattle.std.specs.List.{join_with_byte}
use Rattle.mach_types.specs.declared.events.Entry.{Entry}
use Rattle.mach_types.specs.declared.events.Kind.{Kind}
use Rattle.mach_types.specs.declared.events.Kind.TheVariants.{Exec, Drain, Take, Done, Preempt, Run, Signal}

abbrev pub newline : ℕ
newline = 10

abbrev pub space : ℕ
space = 32

-- the word of a kind of event
abbrev pub kind_word : Kind → List ℕ
kind_word Exec = codes "exec"
kind_word Drain = codes "drain"
kind_word Take = codes "take"
kind_word Done = codes "done"
kind_word Preempt = codes "preempt"
kind_word Run = codes "run"
kind_word Signal = codes "signal"

-- a hart's digit
abbrev pub hart_text : ℕ → List ℕ
hart_text hart = (48 + hart) ∷ []

-- a hexadecimal digit: 0 to 9, then a to f
abbrev pub hex_digit : ℕ → ℕ
hex_digit d = if nat_lt d 10 then 48 + d else 87 + d

-- the lowest `places` hexadecimal digits of a number, the highest of them first
unfoldable pub hex_text : ℕ → ℕ → List ℕ
hex_text zero number = []
hex_text (suc places) number = hex_text places (number / 16) ++ hex_digit (number % 16) ∷ []

-- the fields of an entry's line
abbrev pub entry_fields : Entry → List (List ℕ)
entry_fields e = hart_text e.hart.0 ∷ kind_word e.kind ∷ decimal e.tid.0 ∷ hex_text 16 e.pc ∷ []

-- the line of an entry: its fields, one space apart
abbrev pub entry_line : Entry → List ℕ
entry_line e = join_with_byte space (entry_fields e)

-- the same with its newline
abbrev pub entry_text : Entry → List ℕ
entry_text e = entry_line e ++ newline ∷ []
