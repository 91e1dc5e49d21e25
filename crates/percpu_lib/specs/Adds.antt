-- The block that adds to the cell of its processor (librseq, rseq_addv).
use Rattle.std.specs.Prelude.{ℕ, ◌≡◌, ◌+◌, ◌*◌, ◌≤◌, ◌%◌, ◌^◌, ◌||◌, ◌⊎◌, Bool, List, [], ◌∷◌}
use Rattle.std.specs.Prelude.{◌++◌, Option, Some, None, pos, negsuc}
use Rattle.mach_types.specs.Bytes.{word_at}
use Rattle.mach_types.specs.Registers.{register}
use Rattle.mach_types.specs.declared.sequences.Seq.{Seq}
use Rattle.mach_types.specs.declared.user_memory.Store.{Store}
use Rattle.rv_inst.specs.declared.instruction.Inst.{Inst}
use Rattle.rv_inst.specs.declared.instruction.Inst.TheVariants as inst
use Rattle.alone.specs.Temps.{is_scratch}
use Rattle.alone_laws.specs.Blocks.{Block, among}
use Rattle.alone_laws.specs.Spans.{seen_at}
use Rattle.alone_laws.specs.Uses.{Placed}
use Rattle.block_model.specs.declared.acts.SeqEnd.{SeqEnd}
use Rattle.block_model.specs.History.{History, file, stores}
use Rattle.block_model.specs.Setting.{Setting}
use Rattle.mach_types.specs.declared.sequences.Area.{Area}
use Rattle.percpu_lib.specs.BlockLines.{block_lines}
use Rattle.percpu_lib.specs.Forms.{AreKept, IsLeftFrom}
use Rattle.percpu_lib.specs.Words.{asking_words}
use Rattle.percpu_lib.specs.declared.lines.Line.{Line}
use Rattle.percpu_lib.specs.declared.lines.Line.TheVariants as line
use Rattle.percpu_lib.specs.declared.slots.Slots.{Slots}

-- its words from the retry label on: once it has the address of the cell, the cell grows
abbrev pub add_block : Slots → List (Option Inst)
add_block p =
    asking_words p 19 6
    (Some (inst.Ld 6 5 (pos 0))
    ∷ Some (inst.Add 6 6 p.value)
    ∷ Some (inst.Sd 5 6 (pos 0))
    ∷ Some (inst.Jal 0 (pos 12))
    ∷ None
    ∷ Some (inst.Jal 0 (negsuc 51))
    ∷ [])

-- the same as lines with labels: what it does inside once the address of the cell is in x5
abbrev pub add_steps : Slots → List Line
add_steps p =
    line.Plain (inst.Ld 6 5 (pos 0))
    ∷ line.Plain (inst.Add 6 6 p.value)
    ∷ line.Plain (inst.Sd 5 6 (pos 0))
    ∷ []

-- its lines
abbrev pub add_lines : Slots → ℕ → List Line
add_lines p base = block_lines p base 6 [] (add_steps p) []

-- the range of its sequence
abbrev pub add_range : ℕ → Seq
add_range at = record { start = at + 16; length = 28; abort = at + 52 }

-- the bytes that it uses inside: those of the area, and the cell of a processor
abbrev pub cell_at : ℕ → ℕ → ℕ
cell_at cells cpu = cells + 64 * cpu

abbrev pub add_bytes : ℕ → ℕ → ℕ → ℕ → Bool
add_bytes area cells cpu a = among area 32 a || among (cell_at cells cpu) 8 a

-- the cell of a processor doesn't wrap, and doesn't lie on the area
pub record IsCellApart (area cells cpu : ℕ) : Type 0 where
  pub low_cells : cell_at cells cpu + 8 ≤ 2 ^ 64
  pub beside : (cell_at cells cpu + 8 ≤ area) ⊎ (area + 32 ≤ cell_at cells cpu)

-- the block of the sequence, where it is of this area
abbrev pub add_of : Slots → ℕ → Area → ℕ → ℕ → Block
add_of p at area cells cpu = record {
  area = area;
  table = p.table;
  range = add_range at;
  words = add_bytes
      area.at cells cpu;
}

-- the block as it stands in a program, of whose words it has 14
abbrev pub placed_add : Slots → ℕ → Area → Placed
placed_add p at area =
    record { at = at; count = 14; range = add_range at; area = area; register = p.area; table = p.table }

-- the store to it
abbrev pub cell_store : ℕ → ℕ → ℕ → Store
cell_store cells cpu value = record { at = cell_at cells cpu; size = 8; value = value }

-- the word of a cell as hart h sees it
abbrev pub cell_seen : Setting → ℕ → ℕ → History → Option ℕ
cell_seen s h cells before = word_at (seen_at s h before) (cell_at cells h) 8

-- what a whole add did from the place before its first event to the place after its last: the cell of its
-- processor grew by the value, the only store that it executed is the one to the cell, and no register
-- changed but those that a block may change
pub record IsWholeAdd (s : Setting) (p : Slots) (cells h t : ℕ) (begun reached : History) : Type 0 where
  pub old : ℕ
  pub was : cell_seen s h cells begun ≡ Some old
  pub grown : cell_seen s h cells reached ≡ Some ((old + register (file s t begun).file p.value) % 2 ^ 64)
  pub stored : stores h reached ≡ stores h begun
      ++ cell_store cells h ((old + register (file s t begun).file p.value) % 2 ^ 64) ∷ []
  pub kept : AreKept s is_scratch t begun reached

-- and what one did that isn't whole: nothing but to registers that a block may change
pub record IsNoAdd (s : Setting) (cells h t : ℕ) (begun reached : History) : Type 0 where
  pub same : cell_seen s h cells reached ≡ cell_seen s h cells begun
  pub stored : stores h reached ≡ stores h begun
  pub kept : AreKept s is_scratch t begun reached

-- how a sequence of an add block ends whose thread is at this pc after its last event
abbrev pub IsLeftAt : ℕ → ℕ → SeqEnd → Type 0
IsLeftAt at last end = IsLeftFrom (at + 44) at last end
