use Rattle.std.proofs.Common.{◌≡◌, ◌++◌, take}
use Rattle.place_keys.specs.HartWords.{store_words}
use Rattle.place_keys.specs.Words.{of_each}
use Rattle.place_keys.proofs.harts.write_stores.Given as goal

abbrev pub invariant-loop-index : goal.invariant-loop-index
invariant-loop-index l = l.words.items ≡ l.initial.words.items ++ of_each store_words (take l.index l.buffer)
