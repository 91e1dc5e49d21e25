-- The lines of bytes of memory (own): of each aligned 8 bytes that have one of them what memory has there, and what a hart sees there that
-- sees something else, since a store of its own waits.
use Rattle.std.specs.Prelude.{ℕ, ◌+◌, ◌*◌, ◌/◌, ◌%◌, ◌==◌, Bool, true, false, not, List, [], ◌∷◌, ◌++◌, if◌then◌else◌, Option, Some, None, codes}
use Rattle.std.specs.List.{flat_map, range_with_len}
use Rattle.mach_types.specs.Bytes.{word_at}
use Rattle.block_model.specs.Here.{Here, memory, memory_in, view}
use Rattle.block_model.specs.History.{History, byte, here_in_history, kernel}
use Rattle.block_model.specs.Setting.{Setting}
use Rattle.place_text.specs.Fields.{hart_line, line, value_or_none, value_text}
use Rattle.place_text.specs.Place.{all_harts}

-- the number of the 8 bytes from an address on; none where one of them can't be read
unfoldable pub number_at : (ℕ → Option ℕ) → ℕ → Option ℕ
number_at byte at = word_at byte at 8

-- whether two numbers, either of which may be absent, aren't the same
abbrev pub is_other : Option ℕ → Option ℕ → Bool
is_other None None = false
is_other None (Some b) = true
is_other (Some a) None = true
is_other (Some a) (Some b) = not (a == b)

-- `memory AT VALUE`: the number in memory; `none` where the bytes can't be read
abbrev pub memory_line : ℕ → Option ℕ → List ℕ
memory_line at value = line (codes "memory") (value_text at ∷ value_or_none value ∷ [])

-- `hart H sees AT VALUE`: the number that hart H sees
abbrev pub sees_line : ℕ → ℕ → Option ℕ → List ℕ
sees_line h at value = hart_line h (codes "sees" ∷ value_text at ∷ value_or_none value ∷ [])

-- that of a hart that sees this number, where memory has another
abbrev pub sees_text : ℕ → ℕ → Option ℕ → Option ℕ → List ℕ
sees_text h at seen held = if is_other seen held then sees_line h at seen else []

abbrev pub seen_text : Here → ℕ → List ℕ
seen_text here at = sees_text here.hart at (number_at (view here) at) (number_at (memory here) at)

-- the lines of 8 bytes: what is in memory, and what each hart sees that sees something else
unfoldable pub word_text : Setting → History → ℕ → List ℕ
word_text s before at =
    memory_line at (number_at (memory_in (kernel s before) (λ a. byte s before a)) at)
    ++ flat_map (λ h. seen_text (here_in_history s before h) at) (all_harts s)

-- where the aligned 8 bytes begin that have the byte at an address, and those behind them
abbrev pub word_start : ℕ → ℕ → ℕ
word_start at k = 8 * (at / 8 + k)

-- how many aligned 8 bytes have one of so many bytes from an address on
abbrev pub words_of : ℕ → ℕ → ℕ
words_of at count = (at % 8 + count + 7) / 8

-- the lines of so many bytes from an address on
unfoldable pub memory_text : Setting → History → ℕ → ℕ → List ℕ
memory_text s before at count = flat_map (λ k. word_text s before (word_start at k)) (range_with_len 0 (words_of at count))
