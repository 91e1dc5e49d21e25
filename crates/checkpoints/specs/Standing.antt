-- Checkpoints: parts that stand after first entries of a log (own).
use Rattle.std.specs.Prelude.{ℕ, ◌≡◌, ◌≤◌, ◌<◌, List, Some, length, slice_get, take}
use Rattle.mach_types.specs.declared.events.Entry.{Entry}
use Rattle.block_model.specs.Setting.{Setting}
use Rattle.same_places.specs.Replayed.{StandAfter}
use Rattle.checkpoints.specs.declared.checkpoint.Checkpoint.{Checkpoint}
use Rattle.checkpoints.specs.declared.checkpoints.Checkpoints.{Checkpoints}

-- parts stand after so many first entries of the log
pub record IsCheckpoint (s : Setting) (log : List Entry) (k : Checkpoint) : Type 0 where
  pub within : k.length ≤ length log
  pub stands : StandAfter s (take k.length log) k.parts

-- so many of these, from the first one on, do
abbrev pub AreCheckpoints : Setting → List Entry → List Checkpoint → ℕ → Type 0
AreCheckpoints s log slots used = (i : ℕ) (k : Checkpoint) → i < used → slice_get slots i ≡ Some k → IsCheckpoint s log k

abbrev pub AreStanding : Setting → Checkpoints → Type 0
AreStanding s c = AreCheckpoints s c.log.items c.slots.items c.used

-- so many of these stand after no more entries than so many
abbrev pub AreWithin : List Checkpoint → ℕ → ℕ → Type 0
AreWithin slots count most = (i : ℕ) (k : Checkpoint) → i < count → slice_get slots i ≡ Some k → k.length ≤ most
