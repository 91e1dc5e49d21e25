-- those so far and those of what is left are all
use Rattle.std.proofs.Common.{◌≡◌, ◌≤◌, ◌+◌, drop, length, take}
use Rattle.search_text.specs.Text.{printed, printed_of}
use Rattle.search_text.proofs.text.count_printed.Given as goal

abbrev pub invariant-loop-place : goal.invariant-loop-place
invariant-loop-place l = record {
  whole : l.count + length (printed_of l.apart (take l.place l.outcomes) (drop l.place l.outcomes)) ≡ length (printed l.apart l.outcomes);
  few : l.count ≤ l.place;
}
