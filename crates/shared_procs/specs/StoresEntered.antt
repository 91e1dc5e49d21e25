-- How many plain stores a hart of a pair executed, and how many of them have entered memory: by its drains,
-- and those that waited there where an event ended the process of its thread.
use Rattle.std.specs.Prelude.{ℕ, ◌+◌, ◌==◌, Bool, [], ◌∷◌, length, if◌then◌else◌, is_some}
use Rattle.shared_procs.specs.Pairs.{PairSetting, half}
use Rattle.shared_procs.specs.PairRuns.{PairEvent, PairHistory, pair_after}

abbrev pub is_on : ℕ → PairEvent → Bool
is_on h e = e.entry.hart.0 == h

abbrev pub executed : ℕ → PairHistory → ℕ
executed h [] = 0
executed h (e ∷ before) = if is_on h e then executed h before + length e.done.executed else executed h before

abbrev pub left_by_end : PairSetting → ℕ → PairEvent → PairHistory → ℕ
left_by_end s h e before = if is_some e.done.ended then length ((half e.process (pair_after s before)).waiting h) else 0

abbrev pub entered : PairSetting → ℕ → PairHistory → ℕ
entered s h [] = 0
entered s h (e ∷ before) =
    (if is_on h e then entered s h before + e.done.drained else entered s h before) + left_by_end s h e before
