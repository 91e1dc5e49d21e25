use Rattle.std.proofs.Common.{◌-◌, ◌≤◌, ◌*◌}
use Rattle.page_map.specs.declared.listing.TheConstants.{ALL_PAGES}
use Rattle.place_keys.specs.Differences.{IsWrittenOn}
use Rattle.place_keys.specs.PageWords.{memory_word, start_word}
use Rattle.place_keys.proofs.pages.write_memory.Given as goal

abbrev pub invariant-loop-number : goal.invariant-loop-number
invariant-loop-number l = record {
  within : l.number ≤ ALL_PAGES;
  order : l.past ≤ 512 * l.number;
  written : IsWrittenOn (start_word l.start) (memory_word l.start l.pages) (record { words = l.initial.words.items; past = 0; next = 0 })
      (record { words = l.words.items; past = l.past; next = 512 * l.number });
}

abbrev pub decreases-loop-number : goal.decreases-loop-number
decreases-loop-number l = ALL_PAGES - l.number
