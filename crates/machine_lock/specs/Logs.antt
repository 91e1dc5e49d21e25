-- Which logs may follow which, by a chronicle's meaning: `next` gives the entry that a hart makes next after
-- a log, or none, and `ended` says whether the run has ended at a log.
use Rattle.std.specs.Prelude.{◌≡◌, ℕ, ◌+◌, Bool, true, false, List, [], ◌∷◌, ◌++◌, length, All, Option, Some, None}
use Rattle.mach_types.specs.declared.events.Advance.{Advance}
use Rattle.mach_types.specs.declared.events.Advance.TheVariants.{Made, NoneNow, Ended}
use Rattle.mach_types.specs.declared.events.Entry.{Entry}
use Rattle.mach_types.specs.declared.events.Hart.{Hart}

module _ (next : List Entry → Hart → Option Entry) where
  -- each of these entries, in order, is the one that its hart makes next at its place, after `past`
  abbrev pub AllNext : List Entry → List Entry → Type 0
  AllNext past [] = Unit {0}
  AllNext past (e ∷ es) = (next past e.hart ≡ Some e) × AllNext (past ++ e ∷ []) es

  -- the new log begins with the old one, and each later entry is the one that its hart makes next at its place
  pub record Follows (old new : List Entry) : Type 0 where
    pub rest : List Entry
    pub whole : old ++ rest ≡ new
    pub legal : AllNext old rest

  -- so many entries were added, each the one that this hart makes next at its place
  pub record Adds (hart : Hart) (count : ℕ) (old new : List Entry) : Type 0 where
    pub follows : Follows old new
    pub counted : length old + count ≡ length new
    pub own : All (λ (e : Entry). e.hart ≡ hart) follows.rest

  module _ (ended : List Entry → Bool) where
    -- what one attempt of a hart to go on answers, and what it does to the log
    abbrev pub Advances : Hart → List Entry → List Entry → Advance → Type 0
    Advances hart old new (Made e) =
        (ended old ≡ false) × (e.hart ≡ hart) × (next old hart ≡ Some e) × (new ≡ old ++ e ∷ [])
    Advances hart old new NoneNow = (ended old ≡ false) × (next old hart ≡ None) × (new ≡ old)
    Advances hart old new Ended = (ended old ≡ true) × (new ≡ old)
