use Rattle.place_keys.proofs.PackedCodes.{packed_tells}
use Rattle.place_keys.proofs.theorems.equal_bytes_are_equal_words.Goals as goal

pub returns : goal.returns
returns c = packed_tells
