use Rattle.std.proofs.Common.{◌≡◌, take}
use Rattle.std.specs.Int.{to_le_bytes, w64}
use Rattle.std.specs.List.{flat_map}
use Rattle.guest_programs.proofs.data.data_of.Given as goal

abbrev pub invariant-loop-word : goal.invariant-loop-word
invariant-loop-word l = l.«data».items ≡ flat_map (λ w. to_le_bytes w64 w) (take l.word-index l.word-items)
