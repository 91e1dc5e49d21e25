-- The counts of waits of a run, told by those that aren't 0 (own).
use Rattle.std.specs.Prelude.{ℕ, ◌+◌, List, [], ◌∷◌, slice_index, slice_set}
use Rattle.explored_runs.specs.declared.waits.WaitCount.{WaitCount}

-- one more count at its place
abbrev pub with_count : WaitCount → List ℕ → List ℕ
with_count c counts = slice_set counts c.wait (slice_index counts c.wait + c.stores)

-- counts with those of a list, one after the other
abbrev pub with_counts : List ℕ → List WaitCount → List ℕ
with_counts counts [] = counts
with_counts counts (c ∷ more) = with_counts (with_count c counts) more
