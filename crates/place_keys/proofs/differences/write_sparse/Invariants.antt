use Rattle.std.proofs.Common.{slice_index}
use Rattle.place_keys.specs.Differences.{IsWrittenOn}
use Rattle.place_keys.proofs.differences.write_sparse.Given as goal

abbrev pub invariant-loop-index : goal.invariant-loop-index
invariant-loop-index l =
    IsWrittenOn (λ k. 0) (slice_index l.list) (record { words = l.initial.words.items; past = 0; next = 0 }) (record { words = l.words.items; past = l.last; next = l.index })
