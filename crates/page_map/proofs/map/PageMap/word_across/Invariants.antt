use Rattle.std.proofs.Common.{◌≡◌, ℕ, ◌+◌, ◌<◌, Some, slice_index, length}
use Rattle.page_map.specs.Map.{byte_if}
use Rattle.page_map.proofs.map.PageMap.word_across.Given as goal

-- the bytes so far are those of memory
abbrev pub invariant-loop-k : goal.invariant-loop-k
invariant-loop-k l = record {
  long : length l.bytes ≡ 8;
  bytes : (j : ℕ) → j < l.k → byte_if l.bit l.self (l.at + j) ≡ Some (slice_index l.bytes j);
}
