-- Blocks that stand in a program (own).
use Rattle.std.specs.Prelude.{ℕ, ◌≡◌, ◌≢◌, ◌+◌, ◌-◌, ◌*◌, ◌%◌, ◌^◌, ◌<◌, ◌≤◌, List, [], ◌∷◌, replicate, slice_get}
use Rattle.std.specs.Prelude.{slice_set, Option, Some, None, if◌then◌else◌, unwrap_or}
use Rattle.mach_types.specs.Bytes.{word_at}
use Rattle.elf_load.specs.Start.{loaded_byte}
use Rattle.rv_asm.specs.Assembly.{index_of}
use Rattle.elf_load.specs.declared.image.ImagePage.{ImagePage}
use Rattle.rv_inst.specs.declared.instruction.Inst.{Inst}
use Rattle.alone_laws.specs.Spans.{code_of}
use Rattle.percpu_lib.specs.Lines.{instructions, is_free}
use Rattle.percpu_lib.specs.Words.{AreHeld, AreSlots}
use Rattle.percpu_lib.specs.declared.lines.Line.{Line}
use Rattle.percpu_lib.specs.declared.lines.Line.TheVariants as line
use Rattle.percpu_lib.specs.declared.slots.Slots.{Slots}
use Rattle.urcu_lib.specs.Blocks.{lock_block, sync_block, unlock_block}
use Rattle.urcu_lib.specs.Registers.{AreReadRegs, AreSyncRegs}
use Rattle.urcu_lib.specs.declared.regs.ReadRegs.{ReadRegs}
use Rattle.urcu_lib.specs.declared.regs.SyncRegs.{SyncRegs}

-- a label is bound to the word at an index, if it is free
abbrev pub bind : List (Option ℕ) → ℕ → ℕ → List (Option ℕ)
bind labels label index = if is_free (slice_get labels label) then slice_set labels label (Some index) else labels

-- labels behind lines whose first word has an index
abbrev pub bound_by : List (Option ℕ) → ℕ → List Line → List (Option ℕ)
bound_by labels index [] = labels
bound_by labels index (line.Label l ∷ rest) = bound_by (bind labels l index) index rest
bound_by labels index (line.Plain i ∷ rest) = bound_by labels (index + 1) rest
bound_by labels index (line.Branch i l ∷ rest) = bound_by labels (index + 1) rest
bound_by labels index (line.Data w ∷ rest) = bound_by labels (index + 1) rest

-- the instructions of a block that stands alone: of its lines with labels from 0 on, of which it has eight
abbrev pub block_alone : List Line → List (Option Inst)
block_alone lines = instructions (bound_by (replicate 8 None) 0 lines) 0 lines

-- where a label of a block stands that begins at an address
abbrev pub label_of : List Line → ℕ → ℕ → ℕ
label_of lines at label = at + 4 * unwrap_or (index_of (bound_by (replicate 8 None) 0 lines) label) 0

-- the descriptor of such a block, as words of 8 bytes (`struct rseq_cs`): version and flags, the start, how long the
-- sequence is, and the abort address
abbrev pub descriptor_of : List Line → ℕ → List ℕ
descriptor_of lines at =
    0 ∷ label_of lines at 1 ∷ (label_of lines at 2 - label_of lines at 1) ∷ label_of lines at 3 ∷ []

-- the word of 8 bytes at an address when a program starts
abbrev pub start_word : List ImagePage → ℕ → Option ℕ
start_word pages at = word_at (λ a. Some (loaded_byte pages a)) at 8

-- a program holds the three blocks of user-space RCU for so many readers, 1 to 63: for some registers, word k of each block,
-- from some address on, is its instruction k
pub record HoldsRcu (pages : List ImagePage) : Type 0 where
  pub read : ReadRegs
  pub sync : SyncRegs
  pub readers : ℕ
  pub some : 1 ≤ readers
  pub few : readers ≤ 63
  pub are_read : AreReadRegs read
  pub are_sync : AreSyncRegs sync
  pub lock_at : ℕ
  pub unlock_at : ℕ
  pub sync_at : ℕ
  pub locks : AreHeld (code_of pages) lock_at (lock_block read)
  pub unlocks : AreHeld (code_of pages) unlock_at (unlock_block read)
  pub syncs : AreHeld (code_of pages) sync_at (sync_block sync readers)

-- an image holds a block of some lines: for some registers and some descriptor, word k of the block, from some
-- address on, is its instruction k, and the descriptor is that of the block
pub record ImageHoldsBlock (block : Slots → ℕ → List Line) (pages : List ImagePage) : Type 0 where
  pub slots : Slots
  pub at : ℕ
  pub are_slots : AreSlots slots
  pub some_table : slots.table ≢ 0
  pub low_table : slots.table < 0x7FFFF800
  pub aligned : at % 4 ≡ 0
  pub low : at < 2 ^ 37
  pub stands : AreHeld (code_of pages) at (block_alone (block slots 0))
  pub describes : (k w : ℕ) → slice_get (descriptor_of (block slots 0) at) k ≡ Some w
      → start_word pages (slots.table + 8 * k) ≡ Some w
