-- Lines of the text of a place (own): fields, one space apart, and a newline. Characters are ASCII codes. The numbers of harts, threads,
-- ids, sizes, registers and places are decimal; addresses and values are 16 lower-case hexadecimal digits.
use Rattle.std.specs.Prelude.{ℕ, ◌==◌, List, [], ◌∷◌, ◌++◌, map, filter, Bool, true, false, if◌then◌else◌, Option, Some, None, codes}
use Rattle.std.specs.Fmt.{decimal}
use Rattle.std.specs.List.{flat_map, range_with_len}
use Rattle.mach_types.specs.Kernel.Scheduling.{has_hart}
use Rattle.step_log.specs.Text.{hex_text, newline, space}

-- fields that stand behind others: each behind a space
abbrev pub behind : List (List ℕ) → List ℕ
behind fields = flat_map (λ field. space ∷ field) fields

-- a line: its fields, one space apart, and a newline
abbrev pub line : List ℕ → List (List ℕ) → List ℕ
line first fields = first ++ behind fields ++ newline ∷ []

-- a line of hart h
abbrev pub hart_line : ℕ → List (List ℕ) → List ℕ
hart_line h fields = line (codes "hart") (decimal h ∷ fields)

-- an address or a value
abbrev pub value_text : ℕ → List ℕ
value_text value = hex_text 16 value

-- one that may be absent
abbrev pub value_or_none : Option ℕ → List ℕ
value_or_none None = codes "none"
value_or_none (Some value) = value_text value

abbrev pub yes_or_no : Bool → List ℕ
yes_or_no true = codes "yes"
yes_or_no false = codes "no"

-- the numbers of the harts in a set, in rising order: bit h of it stands for hart h, and there are 8 at most
abbrev pub harts_of : ℕ → List ℕ
harts_of set = filter (has_hart set) (range_with_len 0 8)

-- the fields of a list of harts: their numbers, or `none` where the set is empty
unfoldable pub harts_fields : ℕ → List (List ℕ)
harts_fields set = if set == 0 then codes "none" ∷ [] else map decimal (harts_of set)
