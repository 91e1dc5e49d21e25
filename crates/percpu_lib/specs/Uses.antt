-- How a program uses an add block.
use Rattle.std.specs.Prelude.{ℕ, Bool, List, Option}
use Rattle.mach_types.specs.Registers.{register}
use Rattle.mach_types.specs.declared.sequences.Area.{Area}
use Rattle.rv_inst.specs.declared.instruction.Inst.{Inst}
use Rattle.alone.specs.Temps.{is_scratch}
use Rattle.alone_laws.specs.Uses.{Placed}
use Rattle.block_model.specs.History.{Event, History, file}
use Rattle.block_model.specs.Setting.{Setting}
use Rattle.percpu_lib.specs.Adds.{IsCellApart, IsNoAdd, IsWholeAdd, add_block, add_bytes, placed_add}
use Rattle.percpu_lib.specs.Forms.{AreBlockUsed, Form, HoldsBlock, IsBlockUsed, IsCommitted, SharesAreaWith}
use Rattle.percpu_lib.specs.declared.slots.Slots.{Slots}

-- the address of the data of processor 0, as thread t has it in its register
abbrev pub cells_of : Setting → Slots → ℕ → History → ℕ
cells_of s p t before = register (file s t before).file p.cells

-- what a block does with data whose address stands in that register, told of the area's address, the data's and
-- the hart: the bytes that its sequence uses, what is asked of the data, and what a sequence did, whole or not
pub record Work : Type 1 where
  pub bytes : Setting → ℕ → ℕ → ℕ → ℕ → History → ℕ → Bool
  pub Apart : Setting → ℕ → ℕ → ℕ → ℕ → History → Type 0
  pub Whole : Setting → ℕ → ℕ → ℕ → History → History → Type 0
  pub Partial : Setting → ℕ → ℕ → ℕ → History → History → Type 0

-- a block that does it: its words, so many before its sequence and so many in it, and what it may change
abbrev pub form_on_cells : Slots → List (Option Inst) → ℕ → ℕ → (ℕ → Bool) → Work → Form
form_on_cells p words first inside may work = record {
  slots = p;
  words = words;
  first = first;
  inside = inside;
  may = may;
  bytes = λ s area h t begun. work.bytes s area.at (cells_of s p t begun) h t begun;
  Apart = λ s area h t begun. work.Apart s area.at (cells_of s p t begun) h t begun;
  Whole = λ s h t begun reached. work.Whole s (cells_of s p t begun) h t begun reached;
  Partial = λ s h t begun reached. work.Partial s (cells_of s p t begun) h t begun reached;
}

-- the add block: it uses the area and the cell of the hart, which lies apart from the area
abbrev pub add_form : Slots → Form
add_form p = form_on_cells p (add_block p) 4 7 is_scratch (record {
  bytes = λ s area cells h t begun. add_bytes area cells h;
  Apart = λ s area cells h t begun. IsCellApart area cells h;
  Whole = λ s. IsWholeAdd s p;
  Partial = IsNoAdd;
})

-- an add block at an event, at every event of a history, and as it stands in a program and is used so
abbrev pub IsAddUsed : Setting → Slots → ℕ → Area → ℕ → Event → History → Type 0
IsAddUsed s p at area t e before = IsBlockUsed s (add_form p) at area t e before

abbrev pub AreAddUsed : Setting → Slots → ℕ → Area → ℕ → History → Type 0
AreAddUsed s p at area t history = AreBlockUsed s (add_form p) at area t history

abbrev pub HoldsAdd : Setting → History → Slots → ℕ → Area → ℕ → Type 0
HoldsAdd s history p at area t = HoldsBlock s history (add_form p) at area t

-- thread t uses its area for an add block and for others
abbrev pub SharesArea : Setting → History → Slots → ℕ → Area → ℕ → List Placed → Type 0
SharesArea s history p at area t others = SharesAreaWith s history (placed_add p at area) t others

-- thread t of hart h has come to the post-commit address just now, by a sequence of the block that is whole
abbrev pub IsAdded : Setting → Slots → ℕ → ℕ → ℕ → History → Type 0
IsAdded s p at h t now = IsCommitted s (add_form p) at h t now
