-- That the blocks which an image holds are those of which the laws of `percpu_lib` and `urcu_lib` speak.
use Rattle.std.specs.Prelude.{ℕ, ◌≡◌, ◌+◌, ◌*◌, ◌^◌, ◌<◌, ◌≤◌, ◌⊎◌, ◌==◌, List, Some, None, if◌then◌else◌}
use Rattle.mach_types.specs.declared.sequences.Area.{Area}
use Rattle.mach_types.specs.declared.sequences.Seq.{Seq}
use Rattle.elf_load.specs.declared.image.ImagePage.{ImagePage}
use Rattle.alone_laws.specs.Areas.{ProcessorKept}
use Rattle.alone_laws.specs.Spans.{code_of}
use Rattle.alone_laws.specs.Uses.{AreUsed}
use Rattle.block_model.specs.History.{History}
use Rattle.block_model.specs.Setting.{Setting}
use Rattle.guest_names.specs.declared.names.Name.{Name}
use Rattle.guest_names.specs.declared.names.Name.TheVariants.{Counter, List as Lists, Pool, Dekker, Signals, Migrate, Ring, Urcu as Rcu}
use Rattle.percpu_lib.specs.Allocs.{alloc_form}
use Rattle.percpu_lib.specs.Forms.{AreBlockUsed, Form, HoldsBlock, placed_of, range_of}
use Rattle.percpu_lib.specs.Frees.{free_form}
use Rattle.percpu_lib.specs.Pops.{pop_form}
use Rattle.percpu_lib.specs.Pushes.{push_form}
use Rattle.percpu_lib.specs.RingForms.{ring_get_form, ring_put_form}
use Rattle.percpu_lib.specs.Uses.{add_form}
use Rattle.percpu_lib.specs.Words.{AreHeld}
use Rattle.percpu_lib.specs.declared.lines.Line.{Line}
use Rattle.percpu_lib.specs.declared.slots.Slots.{Slots}
use Rattle.urcu_lib.specs.Blocks.{AreBlocks, Urcu}
use Rattle.guest_programs.specs.Blocks.{HoldsRcu, ImageHoldsBlock, start_word}
use Rattle.guest_programs.specs.Guests.{HoldsBlocks}

-- when a program starts, the descriptor at an address (`struct rseq_cs`) names this sequence: version and flags are 0, and then come
-- the start, how long the sequence is, and the abort address
pub record IsDescriptorOf (pages : List ImagePage) (table : ℕ) (range : Seq) : Type 0 where
  pub zeros : start_word pages table ≡ Some 0
  pub start : start_word pages (table + 8) ≡ Some range.start
  pub length : start_word pages (table + 16) ≡ Some range.length
  pub abort : start_word pages (table + 24) ≡ Some range.abort

-- a block is used in a log as the laws of runs ask: all of `HoldsBlock` but what the program itself holds
pub record IsBlockInUse (s : Setting) (history : History) (form : Form) (at : ℕ) (area : Area) (t : ℕ) : Type 0 where
  pub low_area : area.at + 32 ≤ 2 ^ 38
  pub few : s.limits.harts ≤ 8
  pub used : AreBlockUsed s form at area t history
  pub processor : ProcessorKept s t area history
  pub uses : AreUsed s (placed_of form at area) t history

-- a block that an image holds is that of a form: the words of the form stand where the block does, the descriptor names the form's
-- sequence, and whoever uses the block as the laws ask holds it as they ask
pub record IsOfForm (form : Slots → Form) (lines : Slots → ℕ → List Line) (pages : List ImagePage)
    (b : ImageHoldsBlock lines pages) : Type 0 where
  pub stands : AreHeld (code_of pages) b.at (form b.slots).words
  pub described : IsDescriptorOf pages b.slots.table (range_of (form b.slots) b.at)
  pub holds : (s : Setting) (history : History) (area : Area) (t : ℕ) → s.program.pages ≡ pages
      → IsBlockInUse s history (form b.slots) b.at area t → HoldsBlock s history (form b.slots) b.at area t

-- the counter and the slots of user-space RCU, so many, wrap nowhere and lie apart
pub record AreRcuWords (counter slots count : ℕ) : Type 0 where
  pub low_slots : slots + 64 * count ≤ 2 ^ 64
  pub low_counter : counter + 8 ≤ 2 ^ 64
  pub apart : (i : ℕ) → i < count → (counter + 8 ≤ slots + 64 * i) ⊎ (slots + 64 * i + 8 ≤ counter)

-- user-space RCU by the three blocks that an image holds, with the counter and the slots at these addresses
abbrev pub rcu_with : (pages : List ImagePage) → HoldsRcu pages → ℕ → ℕ → (ℕ → ℕ) → Urcu
rcu_with pages b counter slots reader = record {
  counter = counter;
  slots = slots;
  slot_count = b.readers;
  reader = reader;
  locks = λ at. if at == b.lock_at then Some b.read else None;
  unlocks = λ at. if at == b.unlock_at then Some b.read else None;
  syncs = λ at. if at == b.sync_at then Some b.sync else None;
  readers = λ at. b.readers;
}

-- they are the blocks of which the laws of `urcu_lib` speak, wherever counter and slots lie
abbrev pub IsRcu : (pages : List ImagePage) → HoldsRcu pages → Type 0
IsRcu pages b =
    (counter slots : ℕ) (reader : ℕ → ℕ) → AreRcuWords counter slots b.readers
    → AreBlocks (code_of pages) (rcu_with pages b counter slots reader)

-- each block that the image of a guest holds is that of its form
abbrev pub AreOfLibrary : (name : Name) (pages : List ImagePage) → HoldsBlocks name pages → Type 0
AreOfLibrary Counter pages b = IsOfForm add_form _ pages b
AreOfLibrary Lists pages b = IsOfForm push_form _ pages b.0 × IsOfForm pop_form _ pages b.1
AreOfLibrary Pool pages b = IsOfForm alloc_form _ pages b.0 × IsOfForm free_form _ pages b.1
AreOfLibrary Dekker pages b = Unit {0}
AreOfLibrary Signals pages b = IsOfForm add_form _ pages b
AreOfLibrary Migrate pages b = IsOfForm add_form _ pages b
AreOfLibrary Ring pages b = IsOfForm (ring_put_form 4) _ pages b.0 × IsOfForm (ring_get_form 4) _ pages b.1
AreOfLibrary Rcu pages b = IsRcu pages b
