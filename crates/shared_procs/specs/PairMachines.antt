-- What a pair keeps, and how it is tied to its log.
use Rattle.std.specs.Prelude.{ℕ, ◌≡◌, ◌≤◌, true, false, List, vec_capacity}
use Rattle.mach_types.specs.Limits.{InRange}
use Rattle.block_model.specs.Beside.{is_in_segment}
use Rattle.process.specs.Refinement.{IsTied}
use Rattle.process.specs.declared.parts.Parts.{Parts}
use Rattle.shared_procs.specs.Halves.{program_in}
use Rattle.shared_procs.specs.PairRuns.{IsPairRun, PairSeen, pair_seen}
use Rattle.shared_procs.specs.Pairs.{Pair, PairSetting, setting}
use Rattle.shared_procs.specs.Segments.{shared_in}
use Rattle.shared_procs.specs.declared.pair.Pair.TheInside.{Inside}

-- the setting that a pair keeps
abbrev pub setting_of : Inside → PairSetting
setting_of m = record { first = program_in m.first; second = program_in m.second; limits = m.limits }

-- a pair as it is seen
abbrev pub seen : Inside → PairSeen
seen m = record { setting = setting_of m; log = m.log.items }

-- the parts of both processes, and the bytes of the segment, are those of a pair
pub record AreTied (s : PairSetting) (m : Pair) (one two : Parts) (segment : List ℕ) : Type 0 where
  pub first : IsTied (setting s false) m.first one
  pub second : IsTied (setting s true) m.second two
  pub shared : (a : ℕ) → is_in_segment a ≡ true → shared_in segment a ≡ m.shared a

-- the log is a pair run, after which the pair stands so, and has room for every step
pub record IsPair (m : Inside) : Type 0 where
  pub run : IsPairRun (setting_of m) m.log.items
  pub tied : AreTied (setting_of m) (pair_seen (seen m)) m.first.parts m.second.parts m.segment
  pub limits : InRange m.limits
  pub room : m.limits.steps ≤ vec_capacity m.log
