use Rattle.std.proofs.Common.{◌≡◌, length}
use Rattle.signals.proofs.Words.{PushedSoFar}
use Rattle.signals.proofs.frames.words_stored.Given as goal

-- the writes of the words before are there
abbrev pub invariant-loop-index : goal.invariant-loop-index
invariant-loop-index l = record {
  so_far : PushedSoFar l.at l.words l.writes.items l.index;
  count : length l.writes.items ≡ l.index;
}
