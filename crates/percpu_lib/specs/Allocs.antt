-- The block that takes the last item out of the pool of its processor (own).
use Rattle.std.specs.Prelude.{ℕ, ◌≡◌, ◌≢◌, ◌+◌, ◌-◌, ◌%◌, ◌^◌, ◌||◌, ◌&&◌, ◌==◌, not, Bool, List, [], ◌∷◌, ◌++◌}
use Rattle.std.specs.Prelude.{Option, Some, None, pos, negsuc}
use Rattle.mach_types.specs.Registers.{register}
use Rattle.mach_types.specs.declared.sequences.Seq.{Seq}
use Rattle.rv_inst.specs.declared.instruction.Inst.{Inst}
use Rattle.rv_inst.specs.declared.instruction.Inst.TheVariants as inst
use Rattle.alone_laws.specs.Blocks.{among}
use Rattle.block_model.specs.History.{History, file, stores}
use Rattle.block_model.specs.Setting.{Setting}
use Rattle.percpu_lib.specs.BlockLines.{block_lines}
use Rattle.percpu_lib.specs.Forms.{AreKept, Form}
use Rattle.percpu_lib.specs.Pools.{IsPool, count_of, count_seen, count_store, pool_at, slot_at}
use Rattle.percpu_lib.specs.Pushes.{word_seen}
use Rattle.percpu_lib.specs.Uses.{form_on_cells}
use Rattle.percpu_lib.specs.Words.{asking_words, is_changed}
use Rattle.percpu_lib.specs.declared.lines.Line.{Line}
use Rattle.percpu_lib.specs.declared.lines.Line.TheVariants as line
use Rattle.percpu_lib.specs.declared.slots.Slots.{Slots}

-- the value is 0, and where the count is 0 that is all; else it is the last slot, and the count falls by 1
abbrev pub alloc_steps : Slots → ℕ → List Line
alloc_steps p base =
    line.Plain (inst.Ld 6 5 (pos 0))
    ∷ line.Plain (inst.Addi p.value 0 (pos 0))
    ∷ line.Branch (inst.Beq 6 0 (pos 0)) (base + 2)
    ∷ line.Plain (inst.Addi 6 6 (negsuc 0))
    ∷ line.Plain (inst.Slli 7 6 3)
    ∷ line.Plain (inst.Add 7 7 5)
    ∷ line.Plain (inst.Ld p.value 7 (pos 64))
    ∷ line.Plain (inst.Sd 5 6 (pos 0))
    ∷ []

-- its lines
abbrev pub alloc_lines : Slots → ℕ → List Line
alloc_lines p base = block_lines p base 13 [] (alloc_steps p base) []

-- its words from the retry label on. Where the count is 0, a branch leads to the post-commit address
abbrev pub alloc_block : Slots → List (Option Inst)
alloc_block p =
    asking_words p 19 13
    (Some (inst.Ld 6 5 (pos 0))
    ∷ Some (inst.Addi p.value 0 (pos 0))
    ∷ Some (inst.Beq 6 0 (pos 24))
    ∷ Some (inst.Addi 6 6 (negsuc 0))
    ∷ Some (inst.Slli 7 6 3)
    ∷ Some (inst.Add 7 7 5)
    ∷ Some (inst.Ld p.value 7 (pos 64))
    ∷ Some (inst.Sd 5 6 (pos 0))
    ∷ Some (inst.Jal 0 (pos 12))
    ∷ None
    ∷ Some (inst.Jal 0 (negsuc 71))
    ∷ [])

-- the range of its sequence
abbrev pub alloc_range : ℕ → Seq
alloc_range at = record { start = at + 16; length = 48; abort = at + 72 }

-- the bytes that its sequence uses: those of the area, the count, and the last item, where there is one
abbrev pub alloc_bytes : ℕ → ℕ → ℕ → ℕ → Bool
alloc_bytes area pool count a =
    among area 32 a || (among pool 8 a || (not (count == 0) && among (slot_at pool (count - 1)) 8 a))

-- what became of the value and the pool: the value is 0 and the pool is as it was, where it had no item; else
-- the value is the last item and the count fell by 1, by one store
pub data Allocs (s : Setting) (p : Slots) (pools h t count : ℕ) (begun reached : History) : Type 0 where
  allocs_none : count ≡ 0 → register (file s t reached).file p.value ≡ 0
      → count_seen s h pools reached ≡ count_seen s h pools begun
      → stores h reached ≡ stores h begun → Allocs s p pools h t count begun reached
  allocs_last : count ≢ 0 → (item : ℕ) → word_seen s h (slot_at (pool_at pools h) (count - 1)) begun ≡ Some item
      → register (file s t reached).file p.value ≡ item % 2 ^ 64
      → count_seen s h pools reached ≡ Some (count - 1)
      → stores h reached ≡ stores h begun ++ count_store (pool_at pools h) (count - 1) ∷ []
      → Allocs s p pools h t count begun reached

-- what a whole alloc did from the place before its first event to the place after its last: that, and no
-- register changed but that of the value and those that every block may change
pub record IsWholeAlloc (s : Setting) (p : Slots) (pools h t : ℕ) (begun reached : History) : Type 0 where
  pub allocs : Allocs s p pools h t (count_of s h pools begun) begun reached
  pub kept : AreKept s (is_changed p) t begun reached

-- and what one did that isn't whole: nothing but to the value, and to registers that every block may change
pub record IsNoAlloc (s : Setting) (p : Slots) (pools h t : ℕ) (begun reached : History) : Type 0 where
  pub same : count_seen s h pools reached ≡ count_seen s h pools begun
  pub stored : stores h reached ≡ stores h begun
  pub kept : AreKept s (is_changed p) t begun reached

-- the alloc block. The item may lie on the area: it is read before the one store
abbrev pub alloc_form : Slots → Form
alloc_form p = form_on_cells p (alloc_block p) 4 12 (is_changed p) (record {
  bytes = λ s area cells h t begun. alloc_bytes area (pool_at cells h) (count_of s h cells begun);
  Apart = λ s area cells h t. IsPool s area cells h;
  Whole = λ s. IsWholeAlloc s p;
  Partial = λ s. IsNoAlloc s p;
})
