-- The block that puts the value behind the items of the pool of its processor (own). A pool holds at most 512
-- items.
use Rattle.std.specs.Prelude.{ℕ, ◌≡◌, ◌≢◌, ◌+◌, ◌%◌, ◌^◌, ◌||◌, ◌&&◌, ◌==◌, not, Bool, List, [], ◌∷◌, ◌++◌}
use Rattle.std.specs.Prelude.{Option, Some, None, pos, negsuc}
use Rattle.mach_types.specs.Registers.{register}
use Rattle.mach_types.specs.declared.sequences.Seq.{Seq}
use Rattle.rv_inst.specs.declared.instruction.Inst.{Inst}
use Rattle.rv_inst.specs.declared.instruction.Inst.TheVariants as inst
use Rattle.alone_laws.specs.Blocks.{among}
use Rattle.block_model.specs.History.{History, file, stores}
use Rattle.block_model.specs.Setting.{Setting}
use Rattle.percpu_lib.specs.BlockLines.{block_lines}
use Rattle.percpu_lib.specs.Forms.{AreKept, Form}
use Rattle.percpu_lib.specs.Pools.{IsPool, count_of, count_seen, count_store, pool_at, slot_at, slot_store}
use Rattle.percpu_lib.specs.Pushes.{LieBeside, word_seen}
use Rattle.percpu_lib.specs.Uses.{form_on_cells}
use Rattle.percpu_lib.specs.Words.{asking_words, is_changed}
use Rattle.percpu_lib.specs.declared.lines.Line.{Line}
use Rattle.percpu_lib.specs.declared.lines.Line.TheVariants as line
use Rattle.percpu_lib.specs.declared.slots.Slots.{Slots}

-- where the count is 512 nothing is done; else the slot behind the items becomes the value, the value 0, and
-- the count grows by 1. The value is kept in x28, from where an abort brings it back
abbrev pub free_steps : Slots → ℕ → List Line
free_steps p base =
    line.Plain (inst.Ld 6 5 (pos 0))
    ∷ line.Plain (inst.Addi 7 0 (pos 512))
    ∷ line.Branch (inst.Beq 6 7 (pos 0)) (base + 2)
    ∷ line.Plain (inst.Slli 7 6 3)
    ∷ line.Plain (inst.Add 7 7 5)
    ∷ line.Plain (inst.Sd 7 p.value (pos 64))
    ∷ line.Plain (inst.Addi 6 6 (pos 1))
    ∷ line.Plain (inst.Addi p.value 0 (pos 0))
    ∷ line.Plain (inst.Sd 5 6 (pos 0))
    ∷ []

-- the value is kept, and brought back
abbrev pub free_first : Slots → List Line
free_first p = line.Plain (inst.Addi 28 p.value (pos 0)) ∷ []

abbrev pub free_aborted : Slots → List Line
free_aborted p = line.Plain (inst.Addi p.value 28 (pos 0)) ∷ []

-- its lines
abbrev pub free_lines : Slots → ℕ → List Line
free_lines p base = block_lines p base 13 (free_first p) (free_steps p base) (free_aborted p)

-- its words from the retry label on. Where the count is 512, a branch leads to the post-commit address; the
-- abort handler is the last but one
abbrev pub free_block : Slots → List (Option Inst)
free_block p =
    Some (inst.Addi 28 p.value (pos 0))
    ∷ asking_words p 23 13
    (Some (inst.Ld 6 5 (pos 0))
    ∷ Some (inst.Addi 7 0 (pos 512))
    ∷ Some (inst.Beq 6 7 (pos 28))
    ∷ Some (inst.Slli 7 6 3)
    ∷ Some (inst.Add 7 7 5)
    ∷ Some (inst.Sd 7 p.value (pos 64))
    ∷ Some (inst.Addi 6 6 (pos 1))
    ∷ Some (inst.Addi p.value 0 (pos 0))
    ∷ Some (inst.Sd 5 6 (pos 0))
    ∷ Some (inst.Jal 0 (pos 16))
    ∷ None
    ∷ Some (inst.Addi p.value 28 (pos 0))
    ∷ Some (inst.Jal 0 (negsuc 83))
    ∷ [])

-- the range of its sequence
abbrev pub free_range : ℕ → Seq
free_range at = record { start = at + 20; length = 52; abort = at + 80 }

-- the bytes that its sequence uses: those of the area, the count, and the slot behind the items, where there
-- is one
abbrev pub free_bytes : ℕ → ℕ → ℕ → ℕ → Bool
free_bytes area pool count a =
    among area 32 a || (among pool 8 a || (not (count == 512) && among (slot_at pool count) 8 a))

-- the value, as thread t has it in its register
abbrev pub value_of : Setting → Slots → ℕ → History → ℕ
value_of s p t before = register (file s t before).file p.value

-- what is asked of the data: the pool is one, and the slot behind the items, where there is one, lies beside
-- the area
pub record IsFreeApart (s : Setting) (area pools h : ℕ) (before : History) : Type 0 where
  pub is_pool : IsPool s area pools h before
  pub slot : count_of s h pools before ≢ 512
      → LieBeside (slot_at (pool_at pools h) (count_of s h pools before)) 8 area 32

-- what became of the value and the pool: both are as they were, where the pool was full; else the slot behind
-- the items is the value, the count grew by 1, by these two stores, and the value is 0
pub data Frees (s : Setting) (p : Slots) (pools h t count : ℕ) (begun reached : History) : Type 0 where
  frees_none : count ≡ 512 → value_of s p t reached ≡ value_of s p t begun
      → count_seen s h pools reached ≡ count_seen s h pools begun
      → stores h reached ≡ stores h begun → Frees s p pools h t count begun reached
  frees_slot : count ≢ 512 → value_of s p t reached ≡ 0
      → word_seen s h (slot_at (pool_at pools h) count) reached ≡ Some (value_of s p t begun % 2 ^ 64)
      → count_seen s h pools reached ≡ Some (count + 1)
      → stores h reached ≡ stores h begun
      ++ slot_store (pool_at pools h) count (value_of s p t begun % 2 ^ 64) ∷ count_store (pool_at pools h) (count + 1) ∷ []
      → Frees s p pools h t count begun reached

-- what a whole free did from the place before its first event to the place after its last: that, and no other
-- register changed but those that every block may change
pub record IsWholeFree (s : Setting) (p : Slots) (pools h t : ℕ) (begun reached : History) : Type 0 where
  pub frees : Frees s p pools h t (count_of s h pools begun) begun reached
  pub kept : AreKept s (is_changed p) t begun reached

-- a sequence that isn't whole executed no store, or the one to the slot behind the items, where the pool
-- wasn't full
pub data FreesNoMore (s : Setting) (p : Slots) (pools h t count : ℕ) (begun reached : History) : Type 0 where
  fills_none : stores h reached ≡ stores h begun → FreesNoMore s p pools h t count begun reached
  fills_slot : count ≢ 512 → stores h reached ≡ stores h begun
      ++ slot_store (pool_at pools h) count (value_of s p t begun % 2 ^ 64) ∷ []
      → FreesNoMore s p pools h t count begun reached

-- and what one did that isn't whole: nothing but to that slot, which is none of the items, to the value, and
-- to registers that every block may change. The count is the same as its hart sees it; of the slots it says
-- what was stored, and no more
pub record IsNoFree (s : Setting) (p : Slots) (pools h t : ℕ) (begun reached : History) : Type 0 where
  pub same : count_seen s h pools reached ≡ count_seen s h pools begun
  pub stored : FreesNoMore s p pools h t (count_of s h pools begun) begun reached
  pub kept : AreKept s (is_changed p) t begun reached

-- the free block
abbrev pub free_form : Slots → Form
free_form p = form_on_cells p (free_block p) 5 13 (is_changed p) (record {
  bytes = λ s area cells h t begun. free_bytes area (pool_at cells h) (count_of s h cells begun);
  Apart = λ s area cells h t. IsFreeApart s area cells h;
  Whole = λ s. IsWholeFree s p;
  Partial = λ s. IsNoFree s p;
})
