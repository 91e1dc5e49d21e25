-- The text of a place as it is asked for (own): the place, and behind it the lines of the spans of memory that are asked for, in their
-- order.
use Rattle.std.specs.Prelude.{ℕ, List, ◌++◌}
use Rattle.std.specs.List.{flat_map}
use Rattle.block_model.specs.History.{History}
use Rattle.block_model.specs.Setting.{Setting}
use Rattle.command_words.specs.declared.spans.MemorySpan.{MemorySpan}
use Rattle.place_text.specs.Memory.{memory_text}
use Rattle.place_text.specs.Place.{place_text}

-- the lines of spans
abbrev pub spans_text : Setting → History → List MemorySpan → List ℕ
spans_text s before memory = flat_map (λ span. memory_text s before span.at span.length) memory

-- the text of a place with these spans
unfoldable pub asked_place : List MemorySpan → Setting → History → List ℕ
asked_place memory s before = place_text s before ++ spans_text s before memory
