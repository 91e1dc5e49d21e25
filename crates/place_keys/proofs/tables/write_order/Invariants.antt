use Rattle.std.proofs.Common.{◌≡◌, ◌++◌, take}
use Rattle.place_keys.specs.Words.{word}
use Rattle.scheduler.specs.Entries.{numbers}
use Rattle.place_keys.specs.Words.{of_each}
use Rattle.place_keys.proofs.tables.write_order.Given as goal

abbrev pub invariant-loop-entry : goal.invariant-loop-entry
invariant-loop-entry l = l.words.items ≡ l.initial.words.items ++ of_each word (numbers (take l.entry-index l.order))
