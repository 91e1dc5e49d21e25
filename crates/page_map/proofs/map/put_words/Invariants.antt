use Rattle.std.proofs.Common.{◌≡◌, take}
use Rattle.page_map.specs.Map.{with_words}
use Rattle.page_map.proofs.map.put_words.Given as goal

-- the words so far are written
abbrev pub invariant-loop-k : goal.invariant-loop-k
invariant-loop-k l = l.bytes ≡ with_words l.initial.bytes l.at (take l.k l.words)
