-- Retries: a thread that executes words of a block, is interrupted there, and goes on, until it comes to the
-- post-commit address or leaves the block (own; rseq(2)).
use Rattle.std.specs.Prelude.{ℕ, ◌≡◌, ◌≢◌, ◌+◌, ◌⊎◌, true, List, ◌++◌}
use Rattle.mach_types.specs.Kernel.Areas.{is_inside}
use Rattle.mach_types.specs.declared.events.Entry.{Entry}
use Rattle.block_model.specs.Deciding.{history}
use Rattle.block_model.specs.History.{History, file}
use Rattle.block_model.specs.Setting.{Setting}
use Rattle.block_model.specs.Walks.{IsWalk}
use Rattle.alone_laws.specs.Uses.{Placed, in_block}

-- the address behind the sequence of a block
abbrev pub post_commit : Placed → ℕ
post_commit b = b.range.start + b.range.length

-- thread t is at a word of a block, and not at the post-commit address
pub record IsAtWork (s : Setting) (b : Placed) (t : ℕ) (before : History) : Type 0 where
  pub in_it : in_block b (file s t before).pc ≡ true
  pub uncommitted : (file s t before).pc ≢ post_commit b

-- a stretch behind a log is a walk of thread t on hart h (block_model, Walks), and at each place of it the
-- thread is at work
pub record IsWalkAtWork (s : Setting) (b : Placed) (h t : ℕ) (log stretch : List Entry) : Type 0 where
  pub walk : IsWalk s h t (history s log) stretch
  pub works : (first rest : List Entry) → stretch ≡ first ++ rest → IsAtWork s b t (history s (log ++ first))

-- between two walks no register of the thread changes, and its pc stays or, by an interruption in the
-- sequence, becomes the abort handler
pub record IsBetween (s : Setting) (b : Placed) (t : ℕ) (before now : History) : Type 0 where
  pub registers : (file s t now).file ≡ (file s t before).file
  pub pc : ((file s t now).pc ≡ (file s t before).pc)
      ⊎ ((is_inside b.range (file s t before).pc ≡ true) × ((file s t now).pc ≡ b.range.abort))

-- the places of such walks, one after another, from one on at which the thread is at the retry label
pub data Retries (s : Setting) (b : Placed) (t : ℕ) (first : List Entry) : List Entry → Type 0 where
  begins : (file s t (history s first)).pc ≡ b.at → Retries s b t first first
  walks : (h : ℕ) (log stretch : List Entry) → Retries s b t first log → IsWalkAtWork s b h t log stretch
      → Retries s b t first (log ++ stretch)
  goes_on : (log gap : List Entry) → Retries s b t first log
      → IsBetween s b t (history s log) (history s (log ++ gap))
      → Retries s b t first (log ++ gap)
