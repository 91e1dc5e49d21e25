-- A block that a thread uses well in a block run, and comes to the end of (own): what the laws of runs ask,
-- all at once.
use Rattle.std.specs.Prelude.{ℕ, ◌≡◌, ◌+◌, ◌*◌, List, Some}
use Rattle.mach_types.specs.declared.events.Entry.{Entry}
use Rattle.mach_types.specs.declared.sequences.Area.{Area}
use Rattle.alone_laws.specs.Entering.{IsIn}
use Rattle.alone_laws.specs.Uses.{CanAlwaysBegin, Placed}
use Rattle.block_model.specs.Acts.{Sequence, sequence_on}
use Rattle.block_model.specs.Deciding.{history}
use Rattle.block_model.specs.History.{file}
use Rattle.block_model.specs.Run.{IsBlockRun}
use Rattle.block_model.specs.Setting.{Setting}
use Rattle.percpu_lib.specs.Forms.{Form, HoldsBlock, SharesAreaWith, committed, placed_of, range_of}

-- the thread of a sequence uses a block, and shares its area with others, as the laws ask; and the sequence,
-- the last one on hart 0, is the block's and has come to the post-commit address
pub record IsWellUsed (s : Setting) (log : List Entry) (form : Form) (at : ℕ) (area : Area) (others : List Placed)
    (q : Sequence) : Type 0 where
  pub run : IsBlockRun s log
  pub holds : HoldsBlock s (history s log) form at area q.thread
  pub begins : CanAlwaysBegin s (placed_of form at area) q.thread (history s log)
  pub shares : SharesAreaWith s (history s log) (placed_of form at area) q.thread others
  pub is : sequence_on s 0 (history s log) ≡ Some q
  pub inside : IsIn s (range_of form at) q.thread q.begun
  pub commits : (file s q.thread q.reached).pc ≡ at + 4 * committed form
