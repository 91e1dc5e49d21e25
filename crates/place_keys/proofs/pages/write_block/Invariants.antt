use Rattle.std.proofs.Common.{◌≡◌, ◌<◌, ◌≤◌, ◌+◌, ℕ}
use Rattle.place_keys.specs.Differences.{IsWrittenOn}
use Rattle.place_keys.specs.PageWords.{page_word}
use Rattle.place_keys.proofs.pages.write_block.Given as goal

abbrev pub invariant-loop-index : goal.invariant-loop-index
invariant-loop-index l = record {
  order : l.last ≤ l.first + l.index;
  written : (f g : ℕ → ℕ) → ((k : ℕ) → k < 8 → f (l.first + k) ≡ page_word l.start k) → ((k : ℕ) → k < 8 → g (l.first + k) ≡ page_word l.bytes k)
      → IsWrittenOn f g (record { words = l.initial.words.items; past = l.past; next = l.first }) (record { words = l.words.items; past = l.last; next = l.first + l.index });
}
