use Rattle.std.proofs.Common.{refl}
use Rattle.urcu_lib.specs.Blocks.{lock_block, sync_block, unlock_block}
use Rattle.urcu_lib.specs.Lines.{lock_lines, sync_lines, unlock_lines}
use Rattle.percpu_lib.proofs.KnownWords.{are_held}
use Rattle.urcu_lib.proofs.EmittedWords.{sync_same}
use Rattle.urcu_lib.proofs.theorems.files_hold_rcu_blocks.Goals as goal

pub returns : goal.returns
returns c = record {
  lock = λ r at a b d bytes file image is more code its holds.
      (are_held (lock_lines r) (lock_block r) a b d is more refl).file bytes file image at code its holds;
  unlock = λ r at a b d bytes file image is more code its holds.
      (are_held (unlock_lines r) (unlock_block r) a b d is more refl).file bytes file image at code its holds;
  sync = λ r base readers at a b d bytes file image free is more code its holds.
      (are_held (sync_lines r base readers) (sync_block r readers) a b d is more
      (sync_same r base readers a b free is d more)).file bytes file image at code its holds;
}
