use Rattle.std.proofs.Common.{◌≡◌, ◌++◌}
use Rattle.place_keys.specs.Packed.{packed_word}
use Rattle.place_keys.proofs.packing.pack_word.Given as goal

abbrev pub invariant-loop-rest : goal.invariant-loop-rest
invariant-loop-rest l = l.bytes.items ++ packed_word l.rest ≡ l.initial.bytes.items ++ packed_word l.word

abbrev pub decreases-loop-rest : goal.decreases-loop-rest
decreases-loop-rest l = l.rest
