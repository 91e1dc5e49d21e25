-- What is proved of each block by itself: the course of its sequence from a place where it is about to begin.
use Rattle.std.proofs.Common.{◌≡◌, ◌≢◌, ℕ, ◌+◌, ◌*◌, ◌<◌, ◌⊎◌, true, false, eqb, Some}
use Rattle.mach_types.specs.Kernel.Areas.{is_inside}
use Rattle.mach_types.specs.Registers.{register}
use Rattle.mach_types.specs.declared.sequences.Area.{Area}
use Rattle.alone_laws.specs.Blocks.{IsFairSince, IsSole, StaysInside}
use Rattle.alone_laws.specs.Spans.{alone_from, code_of, seen_at}
use Rattle.block_model.specs.Acts.{Sequence, sequence_on}
use Rattle.block_model.specs.History.{History, file}
use Rattle.block_model.specs.Run.{IsRunHistory}
use Rattle.block_model.specs.Setting.{Setting}
use Rattle.percpu_lib.specs.Forms.{Form, IsBlockPlace, block_of, committed, range_of}
use Rattle.percpu_lib.specs.Words.{AreHeld, AreSlots}
use Rattle.percpu_lib.proofs.BlockCode.{IsFormed}

-- a sequence of the block that began at a place is one run of its thread alone; where its thread is at the
-- post-commit address after it, it has the effect of one that is whole, and else that of one that isn't; out of the
-- range its thread is there, or at the retry label; and a thread that was on the chosen processor is inside after so
-- many instructions, or at the post-commit address
pub record IsCourse (s : Setting) (form : Form) (at : ℕ) (area : Area) (h t : ℕ) (begun : History) : Type 0 where
  pub sole : IsSole (code_of s.program.pages) (seen_at s h begun) (alone_from s h t begun 0)
      (block_of s form at area h t begun)
  pub once : (before : History) (q : Sequence) → IsRunHistory s before
      → IsFairSince s (block_of s form at area h t begun) h t begun before
      → sequence_on s h before ≡ Some q → q.begun ≡ begun
      → ((file s t q.reached).pc ≡ at + 4 * committed form → form.Whole s h t begun q.reached)
      × ((file s t q.reached).pc ≢ at + 4 * committed form → form.Partial s h t begun q.reached)
  pub out : (before : History) (q : Sequence) → IsRunHistory s before
      → IsFairSince s (block_of s form at area h t begun) h t begun before
      → sequence_on s h before ≡ Some q → q.begun ≡ begun
      → is_inside (range_of form at) (file s t q.reached).pc ≡ false
      → ((file s t q.reached).pc ≡ at + 4 * committed form) ⊎ ((file s t q.reached).pc ≡ at)
  pub gone_on : eqb h (register (file s t begun).file 5) ≡ true → (n : ℕ)
      → StaysInside (code_of s.program.pages) (seen_at s h begun) (alone_from s h t begun 0) (range_of form at) n
      → ((is_inside (range_of form at) (alone_from s h t begun n).file.pc ≡ true) × (n < form.inside))
      ⊎ ((alone_from s h t begun n).file.pc ≡ at + 4 * committed form)

-- a block whose words lead on in it, and whose sequences have such a course wherever it stands
pub record HasCourse (form : Form) : Type 0 where
  pub formed : IsFormed form
  pub course : (s : Setting) (at : ℕ) (area : Area) (h t : ℕ) (begun : History)
      → AreHeld (code_of s.program.pages) at form.words → AreSlots form.slots
      → IsBlockPlace s form at area h t begun → IsCourse s form at area h t begun
