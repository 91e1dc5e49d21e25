use Rattle.std.proofs.Common.{◌≡◌, ◌≤◌, ◌*◌, slice_index}
use Rattle.place_keys.specs.Differences.{IsWrittenOn}
use Rattle.place_keys.specs.TableWords.{action_words}
use Rattle.place_keys.specs.Words.{of_each}
use Rattle.place_keys.proofs.tables.write_actions.Given as goal

abbrev pub invariant-loop-action : goal.invariant-loop-action
invariant-loop-action l = record {
  place : l.place ≡ 3 * l.action-index;
  order : l.last ≤ l.place;
  written : IsWrittenOn (λ k. 0) (slice_index (of_each action_words l.actions)) (record { words = l.initial.words.items; past = 0; next = 0 })
      (record { words = l.words.items; past = l.last; next = l.place });
}
