use Rattle.std.proofs.Common.{◌≡◌, ◌++◌, take}
use Rattle.place_keys.specs.TableWords.{area_words}
use Rattle.sys_calls.specs.Registered.{areas_by_number}
use Rattle.place_keys.specs.Words.{of_each}
use Rattle.place_keys.proofs.tables.write_areas.Given as goal

abbrev pub invariant-loop-entry : goal.invariant-loop-entry
invariant-loop-entry l = l.words.items ≡ l.initial.words.items ++ of_each area_words (areas_by_number (take l.entry-index l.areas))
