use Rattle.std.proofs.Common.{◌≡◌, ◌++◌, take}
use Rattle.place_keys.specs.Words.{word}
use Rattle.place_keys.specs.Words.{of_each}
use Rattle.place_keys.proofs.tables.write_waiters.Given as goal

abbrev pub invariant-loop-index : goal.invariant-loop-index
invariant-loop-index l = l.words.items ≡ l.initial.words.items ++ of_each word (take l.index l.threads.threads.waiters)
