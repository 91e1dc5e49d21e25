-- The segment that two processes share, and memory as their instructions reach it: where an address lies in
-- the segment its byte stands there, and else on a page.
use Rattle.std.specs.Prelude.{ℕ, ◌+◌, ◌-◌, ◌%◌, ◌&&◌, ◌||◌, Bool, List, if◌then◌else◌, Option, Some, nat_le, slice_index}
use Rattle.page_map.specs.Map.{Map, byte_in, can_write_in}
use Rattle.block_model.specs.Beside.{SEGMENT_AT, SEGMENT_SIZE, is_in_segment}

-- the byte of a segment at an address, which is below 256
abbrev pub shared_in : List ℕ → ℕ → ℕ
shared_in segment a = slice_index segment (a - SEGMENT_AT) % 256

-- whether all of an access lies in the segment
abbrev pub lies_within : ℕ → ℕ → Bool
lies_within at size = nat_le SEGMENT_AT at && nat_le (at + size) (SEGMENT_AT + SEGMENT_SIZE)

-- the byte at an address, where an instruction can read it
abbrev pub reached_in : List ℕ → Map → ℕ → Option ℕ
reached_in segment m a = if is_in_segment a then Some (shared_in segment a) else byte_in m a

-- whether an instruction can write it
abbrev pub storable_in : Map → ℕ → Bool
storable_in m a = is_in_segment a || can_write_in m a
