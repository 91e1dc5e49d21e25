use Rattle.std.proofs.Common.{◌≡◌, ◌<◌, ◌≤◌, ◌+◌, ◌*◌, ℕ}
use Rattle.place_keys.specs.Differences.{IsWrittenOn}
use Rattle.place_keys.specs.PageWords.{page_word}
use Rattle.place_keys.proofs.pages.write_row.Given as goal

abbrev pub invariant-loop-block : goal.invariant-loop-block
invariant-loop-block l = record {
  order : l.last ≤ l.first + 8 * l.block;
  written : (f g : ℕ → ℕ) → ((k : ℕ) → k < 64 → f (l.first + k) ≡ page_word l.start k) → ((k : ℕ) → k < 64 → g (l.first + k) ≡ page_word l.bytes k)
      → IsWrittenOn f g (record { words = l.initial.words.items; past = l.past; next = l.first }) (record { words = l.words.items; past = l.last; next = l.first + 8 * l.block });
}
