use Rattle.std.proofs.Common.{◌≡◌, ◌<◌, ◌≤◌, ◌+◌, ◌*◌, ℕ}
use Rattle.place_keys.specs.Differences.{IsWrittenOn}
use Rattle.place_keys.specs.PageWords.{page_word}
use Rattle.place_keys.proofs.pages.write_page_words.Given as goal

abbrev pub invariant-loop-row : goal.invariant-loop-row
invariant-loop-row l = record {
  order : l.last ≤ l.first + 64 * l.row;
  written : (f g : ℕ → ℕ) → ((k : ℕ) → k < 512 → f (l.first + k) ≡ page_word l.start k) → ((k : ℕ) → k < 512 → g (l.first + k) ≡ page_word l.bytes k)
      → IsWrittenOn f g (record { words = l.initial.words.items; past = l.past; next = l.first }) (record { words = l.words.items; past = l.last; next = l.first + 64 * l.row });
}
