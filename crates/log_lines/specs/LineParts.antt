-- The line of an entry in two parts (own): its front, which is the same in most lines that follow one another, and its last three digits.
use Rattle.std.specs.Prelude.{ℕ, ◌/◌, ◌%◌, List, [], ◌∷◌}
use Rattle.std.specs.Fmt.{decimal}
use Rattle.std.specs.List.{join_with_byte}
use Rattle.mach_types.specs.declared.events.Entry.{Entry}
use Rattle.step_log.specs.Text.{hart_text, hex_digit, hex_text, kind_word, newline, space}

-- the line of an entry up to the last three digits of its pc
abbrev pub front_text : Entry → List ℕ
front_text e = join_with_byte space (hart_text e.hart.0 ∷ kind_word e.kind ∷ decimal e.tid.0 ∷ hex_text 13 (e.pc / 4096) ∷ [])

-- the last three digits of a pc, and the end of the line
abbrev pub tail_text : ℕ → List ℕ
tail_text pc = hex_digit (pc / 256 % 16) ∷ hex_digit (pc / 16 % 16) ∷ hex_digit (pc % 16) ∷ newline ∷ []
