use Rattle.std.proofs.Common.{◌≡◌, ◌++◌, take}
use Rattle.place_keys.specs.TableWords.{pair_words}
use Rattle.place_keys.specs.Words.{of_each}
use Rattle.place_keys.proofs.tables.write_affinities.Given as goal

abbrev pub invariant-loop-entry : goal.invariant-loop-entry
invariant-loop-entry l = l.words.items ≡ l.initial.words.items ++ of_each pair_words (take l.entry-index l.entries)
