-- What a worker does in one turn.
use Rattle.std.specs.Prelude.{ℕ, Bool, List, Option}
use Rattle.mach_types.specs.declared.events.Advance.{Advance}
use Rattle.mach_types.specs.declared.events.Entry.{Entry}
use Rattle.mach_types.specs.declared.events.Hart.{Hart}
use Rattle.machine_lock.specs.Logs.{Adds, Advances, Follows}

-- the hart added so many entries, those of what was worked on first, and then it tried once more to go on
pub record GoesOn (next : List Entry → Hart → Option Entry) (ended : List Entry → Bool) (hart : Hart) (old new : List Entry) (advance : Advance) : Type 0 where
  pub middle : List Entry
  pub count : ℕ
  pub appended : Adds next hart count old middle
  pub advanced : Advances next ended hart middle new advance

-- a turn was taken: it found a log that follows all that the pass had seen, and from there the hart went on to the new one
pub record WentOn (next : List Entry → Hart → Option Entry) (ended : List Entry → Bool) (hart : Hart) (seen new : List Entry) (advance : Advance) : Type 0 where
  pub found : List Entry
  pub later : Follows next seen found
  pub goes_on : GoesOn next ended hart found new advance
