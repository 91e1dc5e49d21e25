use Rattle.place_keys.proofs.PartCodes.{same_words_same}
use Rattle.place_keys.proofs.theorems.equal_words_are_the_same_place.Goals as goal

pub returns : goal.returns
returns c = same_words_same
