-- those so far and those of what is left are all
use Rattle.std.proofs.Common.{◌≡◌, ◌≤◌, ◌++◌, drop, take}
use Rattle.search_text.specs.Text.{outcomes_text, printed, printed_of}
use Rattle.search_text.proofs.text.push_outcomes.Given as goal

abbrev pub invariant-loop-place : goal.invariant-loop-place
invariant-loop-place l = record {
  whole : l.text.items ++ outcomes_text l.apart l.scripts l.number (printed_of l.apart (take l.place l.outcomes) (drop l.place l.outcomes))
      ≡ l.initial.text.items ++ outcomes_text l.apart l.scripts 0 (printed l.apart l.outcomes);
  few : l.number ≤ l.place;
}
