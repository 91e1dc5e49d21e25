-- The block that pushes a node on the list of its processor (rseq(2); own, after the per-processor list of
-- the kernel's rseq selftests): the first word of the node becomes the head of the list, and the head the
-- node.
use Rattle.std.specs.Prelude.{ℕ, ◌≡◌, ◌+◌, ◌≤◌, ◌%◌, ◌^◌, ◌||◌, ◌⊎◌, Bool, List, [], ◌∷◌, ◌++◌, Option}
use Rattle.std.specs.Prelude.{Some, None, pos, negsuc}
use Rattle.mach_types.specs.Bytes.{word_at}
use Rattle.mach_types.specs.Registers.{register}
use Rattle.mach_types.specs.declared.sequences.Area.{Area}
use Rattle.mach_types.specs.declared.user_memory.Store.{Store}
use Rattle.rv_inst.specs.declared.instruction.Inst.{Inst}
use Rattle.rv_inst.specs.declared.instruction.Inst.TheVariants as inst
use Rattle.alone.specs.Temps.{is_scratch}
use Rattle.alone_laws.specs.Blocks.{among}
use Rattle.alone_laws.specs.Spans.{seen_at}
use Rattle.alone_laws.specs.Uses.{Placed}
use Rattle.block_model.specs.History.{History, file, stores}
use Rattle.block_model.specs.Setting.{Setting}
use Rattle.percpu_lib.specs.Adds.{IsCellApart, cell_at, cell_seen, cell_store}
use Rattle.percpu_lib.specs.BlockLines.{block_lines}
use Rattle.percpu_lib.specs.Forms.{AreKept, Form, HoldsBlock, IsCommitted, placed_of}
use Rattle.percpu_lib.specs.Uses.{form_on_cells}
use Rattle.percpu_lib.specs.Words.{asking_words}
use Rattle.percpu_lib.specs.declared.lines.Line.{Line}
use Rattle.percpu_lib.specs.declared.lines.Line.TheVariants as line
use Rattle.percpu_lib.specs.declared.slots.Slots.{Slots}

-- the head into x6, from there into the node, and then the node as the head
abbrev pub push_steps : Slots → List Line
push_steps p =
    line.Plain (inst.Ld 6 5 (pos 0))
    ∷ line.Plain (inst.Sd p.value 6 (pos 0))
    ∷ line.Plain (inst.Sd 5 p.value (pos 0))
    ∷ []

-- its lines
abbrev pub push_lines : Slots → ℕ → List Line
push_lines p base = block_lines p base 6 [] (push_steps p) []

-- its words from the retry label on: those of an add block, but for the two behind the load of the head
abbrev pub push_block : Slots → List (Option Inst)
push_block p =
    asking_words p 19 6
    (Some (inst.Ld 6 5 (pos 0))
    ∷ Some (inst.Sd p.value 6 (pos 0))
    ∷ Some (inst.Sd 5 p.value (pos 0))
    ∷ Some (inst.Jal 0 (pos 12))
    ∷ None
    ∷ Some (inst.Jal 0 (negsuc 51))
    ∷ [])

-- the address of the node, as thread t has it in its register
abbrev pub node_of : Setting → Slots → ℕ → History → ℕ
node_of s p t before = register (file s t before).file p.value

-- the bytes that its sequence uses: those of the area, the cell of a processor, and the first word of the node
abbrev pub push_bytes : ℕ → ℕ → ℕ → ℕ → ℕ → Bool
push_bytes area cells cpu node a = among area 32 a || (among (cell_at cells cpu) 8 a || among node 8 a)

-- so many bytes lie beside others
abbrev pub LieBeside : ℕ → ℕ → ℕ → ℕ → Type 0
LieBeside a m b n = (a + m ≤ b) ⊎ (b + n ≤ a)

-- neither the cell of a processor nor the first word of the node wraps; and the cell, that word and the area lie
-- apart
pub record IsNodeApart (area cells cpu node : ℕ) : Type 0 where
  pub cell : IsCellApart area cells cpu
  pub low_node : node + 8 ≤ 2 ^ 64
  pub node_area : LieBeside node 8 area 32
  pub node_cell : LieBeside node 8 (cell_at cells cpu) 8

-- the word at an address as hart h sees it
abbrev pub word_seen : Setting → ℕ → ℕ → History → Option ℕ
word_seen s h at before = word_at (seen_at s h before) at 8

-- the store to the first word of a node
abbrev pub node_store : ℕ → ℕ → Store
node_store node value = record { at = node; size = 8; value = value }

-- what a whole push did from the place before its first event to the place after its last: the first word of the
-- node became the old cell of its processor, and the cell the node. The only stores that it executed are these
-- two, and no register changed but those that a block may change
pub record IsWholePush (s : Setting) (cells node h t : ℕ) (begun reached : History) : Type 0 where
  pub old : ℕ
  pub was : cell_seen s h cells begun ≡ Some old
  pub linked : word_seen s h node reached ≡ Some (old % 2 ^ 64)
  pub pushed : cell_seen s h cells reached ≡ Some node
  pub stored : stores h reached
      ≡ stores h begun ++ node_store node (old % 2 ^ 64) ∷ cell_store cells h node ∷ []
  pub kept : AreKept s is_scratch t begun reached

-- a sequence that isn't whole executed no store, or the one to the first word of the node
pub data StoresNoMore (h node : ℕ) (begun reached : History) : Type 0 where
  stores_none : stores h reached ≡ stores h begun → StoresNoMore h node begun reached
  stores_node : (value : ℕ) → stores h reached ≡ stores h begun ++ node_store node value ∷ []
      → StoresNoMore h node begun reached

-- and what one did that isn't whole: nothing but to the first word of the node, and to registers that a block may
-- change. The cell is the same as its hart sees it; of the node it says what was stored, and no more
pub record IsNoPush (s : Setting) (cells node h t : ℕ) (begun reached : History) : Type 0 where
  pub same : cell_seen s h cells reached ≡ cell_seen s h cells begun
  pub stored : StoresNoMore h node begun reached
  pub kept : AreKept s is_scratch t begun reached

-- the push block
abbrev pub push_form : Slots → Form
push_form p = form_on_cells p (push_block p) 4 7 is_scratch (record {
  bytes = λ s area cells h t begun. push_bytes area cells h (node_of s p t begun);
  Apart = λ s area cells h t begun. IsNodeApart area cells h (node_of s p t begun);
  Whole = λ s cells h t begun. IsWholePush s cells (node_of s p t begun) h t begun;
  Partial = λ s cells h t begun. IsNoPush s cells (node_of s p t begun) h t begun;
})

-- the block as it stands in a program; and one that stands in the program of a setting, and is used so in a log
abbrev pub placed_push : Slots → ℕ → Area → Placed
placed_push p at area = placed_of (push_form p) at area

abbrev pub HoldsPush : Setting → History → Slots → ℕ → Area → ℕ → Type 0
HoldsPush s history p at area t = HoldsBlock s history (push_form p) at area t

-- thread t of hart h has come to the post-commit address just now, by a sequence of the block that is whole
abbrev pub IsPushed : Setting → Slots → ℕ → ℕ → ℕ → History → Type 0
IsPushed s p at h t now = IsCommitted s (push_form p) at h t now
