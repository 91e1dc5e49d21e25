use Rattle.std.proofs.Common.{◌≡◌, ◌++◌, take}
use Rattle.place_keys.specs.HartWords.{hart_words}
use Rattle.place_keys.specs.Words.{of_each}
use Rattle.place_keys.proofs.harts.write_harts.Given as goal

abbrev pub invariant-loop-hart : goal.invariant-loop-hart
invariant-loop-hart l = l.words.items ≡ l.initial.words.items ++ of_each hart_words (take l.hart-index l.harts)
