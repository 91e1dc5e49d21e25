-- A script (own): lines that say which events to make. Each line is ended by a newline; the last newline may
-- lack. Its fields are one space apart. The forms are `HART KIND TID PC`, `HART KIND` for a kind other than
-- `run`, and `HART run TID`.
use Rattle.std.specs.Prelude.{ℕ, ◌-◌, ◌^◌, ◌==◌, Bool, ◌&&◌, ◌||◌, not, nat_lt, nat_le, List, [], ◌∷◌, find, length, if◌then◌else◌, Option, Some, None, slice_index}
use Rattle.std.specs.Char.{is_ascii_digit}
use Rattle.std.specs.List.{slice_split, list_all}
use Rattle.std.specs.Str.{bytes_eq}
use Rattle.std.specs.Str.Parse.{digits_value}
use Rattle.mach_types.specs.Events.{all_kinds, choice_for, choice_of, is_run}
use Rattle.mach_types.specs.declared.events.Entry.{Entry}
use Rattle.mach_types.specs.declared.events.Hart.{Hart}
use Rattle.mach_types.specs.declared.events.Kind.{Kind}
use Rattle.mach_types.specs.declared.events.Tid.{Tid}
use Rattle.step_log.specs.declared.fields.Line.{Line}
use Rattle.step_log.specs.Text.{newline, space, kind_word}

-- the lines among the parts between newlines: what follows the last newline is a line unless it is empty
abbrev pub without_empty_end : List (List ℕ) → List (List ℕ)
without_empty_end [] = []
without_empty_end ([] ∷ []) = []
without_empty_end ((c ∷ cs) ∷ []) = (c ∷ cs) ∷ []
without_empty_end (part ∷ next ∷ more) = part ∷ without_empty_end (next ∷ more)

-- the lines of a text, without their newlines
abbrev pub lines_of : List ℕ → List (List ℕ)
lines_of bytes = without_empty_end (slice_split (λ b. b == newline) bytes)

-- the fields of a line
abbrev pub fields_of : List ℕ → List (List ℕ)
fields_of line = slice_split (λ b. b == space) line

-- what the first option gives goes into f
infixl 10 ◌>>=◌
abbrev pub ◌>>=◌ : {A B : Type 0} → Option A → (A → Option B) → Option B
None >>= f = None
(Some x) >>= f = f x

-- HART is one digit, 0 to 7
abbrev pub hart_read : List ℕ → Option Hart
hart_read [] = None
hart_read (digit ∷ []) = if nat_le 48 digit && nat_lt digit 56 then Some (record { 0 = digit - 48 }) else None
hart_read (digit ∷ next ∷ more) = None

-- KIND is the word of a kind
abbrev pub kind_read : List ℕ → Option Kind
kind_read word = find (λ k. bytes_eq word (kind_word k)) all_kinds

-- a 0 stands before other digits
abbrev pub has_leading_zero : List ℕ → Bool
has_leading_zero text = nat_lt 1 (length text) && (slice_index text 0 == 48)

-- some decimal digits, without a leading zero
abbrev pub is_plain_decimal : List ℕ → Bool
is_plain_decimal text = nat_lt 0 (length text) && list_all is_ascii_digit text && not (has_leading_zero text)

-- TID is a decimal number below 2 ^ 32 without a leading zero, or `0`
abbrev pub tid_read : List ℕ → Option Tid
tid_read text =
    if is_plain_decimal text && nat_lt (digits_value 10 text) (2 ^ 32) then Some (record { 0 = digits_value 10 text }) else None

-- a hexadecimal digit in lower case
abbrev pub is_hex_digit : ℕ → Bool
is_hex_digit c = is_ascii_digit c || (nat_le 97 c && nat_le c 102)

-- PC is 16 lower-case hexadecimal digits
abbrev pub pc_read : List ℕ → Option ℕ
pc_read text = if (length text == 16) && list_all is_hex_digit text then Some (digits_value 16 text) else None

-- a line without a check, by its kind; the thread is that of a `run`
abbrev pub bare_line : Hart → Kind → Tid → Line
bare_line hart kind tid = record { hart = hart; choice = choice_for kind tid; check = None }

-- `HART KIND`, for a kind other than `run`
abbrev pub short_line : Hart → Kind → Option Line
short_line hart kind = if is_run kind then None else Some (bare_line hart kind (record { 0 = 0 }))

-- `HART run TID`, and no other kind
abbrev pub run_line : Hart → Kind → Tid → Option Line
run_line hart kind tid = if is_run kind then Some (bare_line hart kind tid) else None

-- `HART KIND TID PC`, as an entry of the log is printed
abbrev pub whole_line : Entry → Line
whole_line entry = record { hart = entry.hart; choice = choice_of entry; check = Some (entry.tid, entry.pc) }

-- what the fields of a line say, none where they are malformed
abbrev pub meaning_of_fields : List (List ℕ) → Option Line
meaning_of_fields [] = None
meaning_of_fields (hart ∷ []) = None
meaning_of_fields (hart ∷ kind ∷ []) = do
  h ← hart_read hart
  k ← kind_read kind
  short_line h k
meaning_of_fields (hart ∷ kind ∷ tid ∷ []) = do
  h ← hart_read hart
  k ← kind_read kind
  t ← tid_read tid
  run_line h k t
meaning_of_fields (hart ∷ kind ∷ tid ∷ pc ∷ []) = do
  h ← hart_read hart
  k ← kind_read kind
  t ← tid_read tid
  p ← pc_read pc
  Some (whole_line (record { hart = h; kind = k; tid = t; pc = p }))
meaning_of_fields (hart ∷ kind ∷ tid ∷ pc ∷ another ∷ more) = None

-- what a line says, none where it is malformed
abbrev pub line_meaning : List ℕ → Option Line
line_meaning line = meaning_of_fields (fields_of line)
