-- What becomes of a pass by the turns that it takes.
use Rattle.std.specs.Prelude.{◌≡◌, ℕ, ◌<◌, List, ◌++◌, length, Option}
use Rattle.mach_types.specs.declared.events.Entry.{Entry}
use Rattle.mach_types.specs.declared.events.Hart.{Hart}
use Rattle.machine_lock.specs.declared.history.Origin.{Origin}
use Rattle.machine_lock.specs.Numbers.{In, RisesFrom}
use Rattle.machine_lock.specs.Passes.{PassView}
use Rattle.machine_lock.specs.Rule.{Runs}

module _ {M Setting : Type 0} (setting : M → Setting) (log : M → List Entry) (next : Setting → List Entry → Hart → Option Entry) (k : Origin M) where
  -- the pass made no entry; it may have seen more of the log
  pub record Looked (before after : PassView M) : Type 0 where
    pub later : Runs setting log next k before.seen after.seen
    pub kept : after ≡ record before { seen = after.seen }

  -- the log went on by the meaning, and numbers of new entries were added to the pass's own
  pub record Grew (before after : PassView M) : Type 0 where
    pub later : Runs setting log next k before.seen after.seen
    pub more : List ℕ
    pub kept : after ≡ record before { seen = after.seen; mine = before.mine ++ more }
    pub rises : RisesFrom (length before.seen) more
    pub below : (z : ℕ) → In z more → z < length after.seen
