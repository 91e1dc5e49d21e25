-- Spans of memory, as a word writes them (own): `AT:LENGTH`, and several of them one comma apart. AT is an address, 1 to 16 hexadecimal
-- digits in lower case, and LENGTH is how many bytes there are, a number of 1 to 65,536. No span goes past the end of addresses.
use Rattle.std.specs.Prelude.{ℕ, ◌+◌, ◌^◌, ◌==◌, Bool, ◌&&◌, List, [], length, drop, Option, Some, None, option_map, if◌then◌else◌, nat_le, nat_lt}
use Rattle.std.specs.List.{before_first, flat_map, list_all, position, slice_split}
use Rattle.std.specs.Option.{is_some, option_map_or, option_to_list}
use Rattle.std.specs.Str.Parse.{digits_value}
use Rattle.step_log.specs.Script.{◌>>=◌, is_hex_digit}
use Rattle.command_words.specs.Decimals.{number_in, range_of}
use Rattle.command_words.specs.declared.spans.MemorySpan.{MemorySpan}

-- `:`, which parts an address from how many bytes there are, and `,`, which parts spans
abbrev pub is_colon : ℕ → Bool
is_colon character = character == 58

abbrev pub is_comma : ℕ → Bool
is_comma character = character == 44

-- what stands behind the first `:` of a text, if it has one
abbrev pub behind_colon : List ℕ → Option (List ℕ)
behind_colon text = option_map (λ place. drop (place + 1) text) (position is_colon text)

-- the address that a text writes, if it is one
abbrev pub address_of : List ℕ → Option ℕ
address_of text =
    if nat_lt 0 (length text) && nat_le (length text) 16 && list_all is_hex_digit text then Some (digits_value 16 text) else None

-- so many bytes from an address on, where they end at the end of addresses or before it
abbrev pub span_from : ℕ → ℕ → Option MemorySpan
span_from at count = if nat_le (at + count) (2 ^ 64) then Some (record { at = at; length = count }) else None

-- the span that a text writes, if it is one
abbrev pub span_of : List ℕ → Option MemorySpan
span_of text = do
  behind ← behind_colon text
  at ← address_of (before_first is_colon text)
  count ← number_in (range_of 1 65536) behind
  span_from at count

-- what stands between the commas of a text
abbrev pub parts_of : List ℕ → List (List ℕ)
parts_of text = slice_split is_comma text

-- whether each of these is a span
abbrev pub are_spans : List ℕ → Bool
are_spans text = list_all (λ part. is_some (span_of part)) (parts_of text)

-- the spans that texts write, in their order
abbrev pub spans_of : List (List ℕ) → List MemorySpan
spans_of parts = flat_map (λ part. option_to_list (span_of part)) parts

-- those between whose texts commas stand
abbrev pub spans_in : List ℕ → List MemorySpan
spans_in text = spans_of (parts_of text)

-- none, where there is no text
abbrev pub spans_given : Option (List ℕ) → List MemorySpan
spans_given text = option_map_or spans_in text []
