-- The block that pops the first node off the list of its processor (own, after the per-processor list of the
-- kernel's rseq selftests): the value becomes the head, and where that isn't 0 the head becomes the first
-- word of the node.
use Rattle.std.specs.Prelude.{ℕ, ◌≡◌, ◌≢◌, ◌+◌, ◌%◌, ◌^◌, ◌||◌, ◌&&◌, ◌==◌, not, Bool, List, [], ◌∷◌, ◌++◌}
use Rattle.std.specs.Prelude.{Option, Some, None, pos, negsuc, unwrap_or}
use Rattle.mach_types.specs.Registers.{register}
use Rattle.mach_types.specs.declared.sequences.Seq.{Seq}
use Rattle.rv_inst.specs.declared.instruction.Inst.{Inst}
use Rattle.rv_inst.specs.declared.instruction.Inst.TheVariants as inst
use Rattle.alone_laws.specs.Blocks.{among}
use Rattle.block_model.specs.History.{History, file, stores}
use Rattle.block_model.specs.Setting.{Setting}
use Rattle.percpu_lib.specs.Adds.{IsCellApart, cell_at, cell_seen, cell_store}
use Rattle.percpu_lib.specs.BlockLines.{block_lines}
use Rattle.percpu_lib.specs.Forms.{AreKept, Form}
use Rattle.percpu_lib.specs.Pushes.{word_seen}
use Rattle.percpu_lib.specs.Uses.{form_on_cells}
use Rattle.percpu_lib.specs.Words.{asking_words, is_changed}
use Rattle.percpu_lib.specs.declared.lines.Line.{Line}
use Rattle.percpu_lib.specs.declared.lines.Line.TheVariants as line
use Rattle.percpu_lib.specs.declared.slots.Slots.{Slots}

-- the head into the value; where it is 0 that is all; else the word at it becomes the head
abbrev pub pop_steps : Slots → ℕ → List Line
pop_steps p base =
    line.Plain (inst.Ld p.value 5 (pos 0))
    ∷ line.Branch (inst.Beq p.value 0 (pos 0)) (base + 2)
    ∷ line.Plain (inst.Ld 6 p.value (pos 0))
    ∷ line.Plain (inst.Sd 5 6 (pos 0))
    ∷ []

-- its lines
abbrev pub pop_lines : Slots → ℕ → List Line
pop_lines p base = block_lines p base 6 [] (pop_steps p base) []

-- its words from the retry label on. Where the head is 0, a branch leads to the post-commit address
abbrev pub pop_block : Slots → List (Option Inst)
pop_block p =
    asking_words p 19 6
    (Some (inst.Ld p.value 5 (pos 0))
    ∷ Some (inst.Beq p.value 0 (pos 12))
    ∷ Some (inst.Ld 6 p.value (pos 0))
    ∷ Some (inst.Sd 5 6 (pos 0))
    ∷ Some (inst.Jal 0 (pos 12))
    ∷ None
    ∷ Some (inst.Jal 0 (negsuc 55))
    ∷ [])

-- the range of its sequence
abbrev pub pop_range : ℕ → Seq
pop_range at = record { start = at + 16; length = 32; abort = at + 56 }

-- the head of the list of a processor, as hart h sees it: the word of the cell, which each byte has, so that
-- there is always one
abbrev pub head_of : Setting → ℕ → ℕ → History → ℕ
head_of s h cells before = unwrap_or (cell_seen s h cells before) 0 % 2 ^ 64

-- the bytes that its sequence uses: those of the area, the cell of a processor, and the first word of the
-- node, where there is one
abbrev pub pop_bytes : ℕ → ℕ → ℕ → ℕ → ℕ → Bool
pop_bytes area cells cpu head a =
    among area 32 a || (among (cell_at cells cpu) 8 a || (not (head == 0) && among head 8 a))

-- what became of the list: nothing, where it had no node; else the cell became the first word of the node, by
-- one store
pub data Pops (s : Setting) (cells h head : ℕ) (begun reached : History) : Type 0 where
  pops_none : head ≡ 0 → cell_seen s h cells reached ≡ cell_seen s h cells begun
      → stores h reached ≡ stores h begun → Pops s cells h head begun reached
  pops_first : head ≢ 0 → (next : ℕ) → word_seen s h head begun ≡ Some next
      → cell_seen s h cells reached ≡ Some (next % 2 ^ 64)
      → stores h reached ≡ stores h begun ++ cell_store cells h (next % 2 ^ 64) ∷ []
      → Pops s cells h head begun reached

-- what a whole pop did from the place before its first event to the place after its last: the value became
-- the head of the list of its processor, the list lost that node, where there was one, and no other register
-- changed but those that every block may change
pub record IsWholePop (s : Setting) (p : Slots) (cells h t : ℕ) (begun reached : History) : Type 0 where
  pub popped : register (file s t reached).file p.value ≡ head_of s h cells begun
  pub pops : Pops s cells h (head_of s h cells begun) begun reached
  pub kept : AreKept s (is_changed p) t begun reached

-- and what one did that isn't whole: nothing but to the value, and to registers that every block may change
pub record IsNoPop (s : Setting) (p : Slots) (cells h t : ℕ) (begun reached : History) : Type 0 where
  pub same : cell_seen s h cells reached ≡ cell_seen s h cells begun
  pub stored : stores h reached ≡ stores h begun
  pub kept : AreKept s (is_changed p) t begun reached

-- the pop block. The first word of the node may lie on the cell or the area: it is read before the one store
abbrev pub pop_form : Slots → Form
pop_form p = form_on_cells p (pop_block p) 4 8 (is_changed p) (record {
  bytes = λ s area cells h t begun. pop_bytes area cells h (head_of s h cells begun);
  Apart = λ s area cells h t begun. IsCellApart area cells h;
  Whole = λ s. IsWholePop s p;
  Partial = λ s. IsNoPop s p;
})
