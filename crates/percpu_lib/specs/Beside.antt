-- The sequences of the library's blocks as they stand in a program (own).
use Rattle.std.specs.Prelude.{ℕ, ◌≡◌, ◌+◌, ◌*◌, ◌<◌, ◌≤◌, ◌^◌, List, ◌∷◌, length, Option, Some, pos}
use Rattle.rv_asm.specs.Assembly.{index_of}
use Rattle.rv_inst.specs.declared.instruction.Inst.{Inst}
use Rattle.rv_inst.specs.declared.instruction.Inst.TheVariants as inst
use Rattle.alone_laws.specs.Uses.{Placed}
use Rattle.percpu_lib.specs.Adds.{add_steps}
use Rattle.percpu_lib.specs.Allocs.{alloc_steps}
use Rattle.percpu_lib.specs.Frees.{free_steps}
use Rattle.percpu_lib.specs.Lines.{instructions}
use Rattle.percpu_lib.specs.Pops.{pop_steps}
use Rattle.percpu_lib.specs.Pushes.{push_steps}
use Rattle.percpu_lib.specs.Rings.{get_steps, put_steps}
use Rattle.percpu_lib.specs.Words.{AreHeld}
use Rattle.percpu_lib.specs.declared.lines.Line.{Line}
use Rattle.percpu_lib.specs.declared.lines.Line.TheVariants as line
use Rattle.percpu_lib.specs.declared.slots.Slots.{Slots}

-- the lines of the sequence of a block, from its start to its post-commit address
abbrev pub sequence_lines : Slots → ℕ → ℕ → List Line → List Line
sequence_lines p base shift inside =
    line.Plain (inst.Lw 6 p.area (pos 4))
    ∷ line.Branch (inst.Bne 6 5 (pos 0)) base
    ∷ line.Plain (inst.Slli 5 5 shift)
    ∷ line.Plain (inst.Add 5 5 p.cells)
    ∷ inside

-- a block that does this inside stands in a program: its sequence has these words, with the retry label and the
-- post-commit address bound, and its descriptor stands low
pub record HoldsSequence (code : ℕ → Option Inst) (b : Placed) (p : Slots) (base shift : ℕ) (inside : List Line)
    : Type 0 where
  pub labels : List (Option ℕ)
  pub first : ℕ
  pub retry : ℕ
  pub bound_retry : index_of labels base ≡ Some retry
  pub leave : ℕ
  pub bound_leave : index_of labels (base + 2) ≡ Some leave
  pub stands : AreHeld code b.range.start (instructions labels first (sequence_lines p base shift inside))
  pub long : b.range.length ≡ 4 * length (instructions labels first (sequence_lines p base shift inside))
  pub low : b.range.start < 2 ^ 37
  pub low_table : b.table < 0x7FFFF800

-- a block is one of the seven
pub data IsOfLibrary (code : ℕ → Option Inst) (b : Placed) : Type 0 where
  is_add : (p : Slots) (base : ℕ) → HoldsSequence code b p base 6 (add_steps p) → IsOfLibrary code b
  is_push : (p : Slots) (base : ℕ) → HoldsSequence code b p base 6 (push_steps p) → IsOfLibrary code b
  is_pop : (p : Slots) (base : ℕ) → HoldsSequence code b p base 6 (pop_steps p base) → IsOfLibrary code b
  is_alloc : (p : Slots) (base : ℕ) → HoldsSequence code b p base 13 (alloc_steps p base) → IsOfLibrary code b
  is_free : (p : Slots) (base : ℕ) → HoldsSequence code b p base 13 (free_steps p base) → IsOfLibrary code b
  is_ring_put : (p : Slots) (base count : ℕ) → 1 ≤ count → count ≤ 4
      → HoldsSequence code b p base 13 (put_steps p base count) → IsOfLibrary code b
  is_ring_get : (p : Slots) (base count : ℕ) → 1 ≤ count → count ≤ 4
      → HoldsSequence code b p base 13 (get_steps p base count) → IsOfLibrary code b
