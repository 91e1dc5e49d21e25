-- The blocks of the library as data, and how a program uses one (own): what is asked of a setting and a log, one
-- condition at each event, read back from it. A block is 'a block that stands and is used so' by its form alone.
use Rattle.std.specs.Prelude.{ℕ, ◌≡◌, ◌≢◌, ◌+◌, ◌*◌, ◌^◌, ◌<◌, ◌≤◌, ◌%◌, ◌⊎◌, Bool, false, List, [], ◌∷◌, length, Option, Some}
use Rattle.std.specs.Prelude.{Contains}
use Rattle.mach_types.specs.Bytes.{word_at}
use Rattle.mach_types.specs.Registers.{register}
use Rattle.mach_types.specs.declared.sequences.Area.{Area}
use Rattle.mach_types.specs.declared.sequences.Seq.{Seq}
use Rattle.rv_inst.specs.declared.instruction.Inst.{Inst}
use Rattle.alone_laws.specs.Areas.{ProcessorKept}
use Rattle.alone_laws.specs.Blocks.{Block, IsFair, IsOpen}
use Rattle.alone_laws.specs.Entering.{IsIn}
use Rattle.alone_laws.specs.Pointers.{AlwaysDescribed, LiesBeside, PointerKept}
use Rattle.alone_laws.specs.Spans.{code_of, seen_at}
use Rattle.alone_laws.specs.Uses.{AreUsed, Placed}
use Rattle.block_model.specs.Acts.{Sequence, sequence_on}
use Rattle.block_model.specs.History.{Event, History, file, running}
use Rattle.block_model.specs.Setting.{Setting}
use Rattle.block_model.specs.declared.acts.SeqEnd.{SeqEnd}
use Rattle.block_model.specs.declared.acts.SeqEnd.TheVariants as ends
use Rattle.percpu_lib.specs.Words.{AreHeld, AreSlots}
use Rattle.percpu_lib.specs.declared.slots.Slots.{Slots}

-- what a block is: the registers that it works with and the address of its descriptor; its words from the retry
-- label on, of which one without an instruction is `None`; how many of them stand before its sequence, and how
-- many in it; and the registers that it may change. Of a place where thread t is about to begin the sequence on
-- hart h: the bytes that the sequence uses, and what is asked of its data. And the table of effects: what a
-- sequence did from the place where it began to the place after its last event, where it is whole and where not
pub record Form : Type 1 where
  pub slots : Slots
  pub words : List (Option Inst)
  pub first : ℕ
  pub inside : ℕ
  pub may : ℕ → Bool
  pub bytes : Setting → Area → ℕ → ℕ → History → ℕ → Bool
  pub Apart : Setting → Area → ℕ → ℕ → History → Type 0
  pub Whole : Setting → ℕ → ℕ → History → History → Type 0
  pub Partial : Setting → ℕ → ℕ → History → History → Type 0

-- the registers of a thread are as they were, but for those that it may change
abbrev pub AreKept : Setting → (ℕ → Bool) → ℕ → History → History → Type 0
AreKept s may t begun reached =
    (r : ℕ) → may r ≡ false → register (file s t reached).file r ≡ register (file s t begun).file r

-- the word behind its sequence, at the post-commit address
abbrev pub committed : Form → ℕ
committed form = form.first + form.inside

-- its sequence, where its first word is at an address; the signature stands behind the word at the post-commit
-- address, and behind that the abort handler
abbrev pub range_of : Form → ℕ → Seq
range_of form at = record {
  start = at + 4 * form.first;
  length = 4 * form.inside;
  abort = at + 4 * (committed form + 2);
}

-- the block as it stands in a program
abbrev pub placed_of : Form → ℕ → Area → Placed
placed_of form at area = record {
  at = at;
  count = length form.words;
  range = range_of form at;
  area = area;
  register = form.slots.area;
  table = form.slots.table;
}

-- the block of a sequence that began at a place of hart h
abbrev pub block_of : Setting → Form → ℕ → Area → ℕ → ℕ → History → Block
block_of s form at area h t begun = record {
  area = area;
  table = form.slots.table;
  range = range_of form at;
  words = form.bytes s area h t begun;
}

-- thread t stands at the start of a sequence, on hart h
pub record IsAtStart (s : Setting) (start h t : ℕ) (begun : History) : Type 0 where
  pub runs : running s h begun ≡ Some t
  pub pc : (file s t begun).pc ≡ start

-- an event: as long as a sequence of the block is open, or about to begin, on some hart, its area is the
-- thread's, its descriptor stands, its bytes can be used, and nobody else writes them; and where one is about
-- to begin its data is as the block asks
pub record IsBlockUsed (s : Setting) (form : Form) (at : ℕ) (area : Area) (t : ℕ) (e : Event) (before : History)
    : Type 0 where
  pub fair : (h : ℕ) (begun : History) → IsAtStart s (at + 4 * form.first) h t begun → IsOpen s h begun before
      → IsFair s (block_of s form at area h t begun) h t e before
  pub begins : (h : ℕ) → IsAtStart s (at + 4 * form.first) h t before → form.Apart s area h t before

-- every event of a history
abbrev pub AreBlockUsed : Setting → Form → ℕ → Area → ℕ → History → Type 0
AreBlockUsed s form at area t [] = Unit {0}
AreBlockUsed s form at area t (e ∷ before) =
    AreBlockUsed s form at area t before × IsBlockUsed s form at area t e before

-- a block that stands in the program of a setting, at addresses of users, and is used so in a log: by its thread
-- (AreUsed), with its data (AreBlockUsed), and with the processor's words of its area (ProcessorKept)
pub record HoldsBlock (s : Setting) (history : History) (form : Form) (at : ℕ) (area : Area) (t : ℕ) : Type 0
  where
    pub stands : AreHeld (code_of s.program.pages) at form.words
    pub slots : AreSlots form.slots
    pub some_table : form.slots.table ≢ 0
    pub low_table : form.slots.table < 0x7FFFF800
    pub low : at < 2 ^ 37
    pub low_area : area.at + 32 ≤ 2 ^ 38
    pub used : AreBlockUsed s form at area t history
    pub processor : ProcessorKept s t area history
    pub few : s.limits.harts ≤ 8
    pub uses : AreUsed s (placed_of form at area) t history

-- thread t uses its area for a block and for others: from its first registration on nobody writes the area's
-- pointer but the thread's instructions just before the starts of these blocks, and the kernel as that of the
-- thread; wherever the thread runs in the block before its sequence their descriptors stand; and no sequence of
-- the others has a word there
pub record SharesAreaWith (s : Setting) (history : History) (b : Placed) (t : ℕ) (others : List Placed) : Type 0
  where
    pub beside : (other : Placed) → Contains others other → LiesBeside b other
    pub kept : PointerKept s (b ∷ others) t b.area.at history
    pub described : AlwaysDescribed s b (b ∷ others) t history

-- a place where thread t is about to begin the sequence of a block on hart h: its registers and its data are as
-- the block asks, and the area names the block and tells the processor
pub record IsBlockPlace (s : Setting) (form : Form) (at : ℕ) (area : Area) (h t : ℕ) (begun : History) : Type 0
  where
    pub runs : running s h begun ≡ Some t
    pub pc : (file s t begun).pc ≡ at + 4 * form.first
    pub aligned : at % 4 ≡ 0
    pub low : at < 2 ^ 37
    pub low_area : area.at + 32 ≤ 2 ^ 38
    pub few : h < 8
    pub apart : form.Apart s area h t begun
    pub area_is : register (file s t begun).file form.slots.area ≡ area.at
    pub many : length (file s t begun).file.x ≡ 32
    pub points : word_at (seen_at s h begun) (area.at + 8) 8 ≡ Some form.slots.table
    pub on_cpu : word_at (seen_at s h begun) (area.at + 4) 4 ≡ Some h

-- how a sequence ends whose thread is at this pc after its last event: 'left' where that is the post-commit
-- address; and where it ends 'left' its thread is there, or back at the retry label
pub record IsLeftFrom (commit retry last : ℕ) (end : SeqEnd) : Type 0 where
  pub committed : last ≡ commit → end ≡ ends.Left
  pub left : end ≡ ends.Left → (last ≡ commit) ⊎ (last ≡ retry)

-- thread t of hart h has come to the post-commit address just now, by a sequence of the block that is whole
pub record IsCommitted (s : Setting) (form : Form) (at h t : ℕ) (now : History) : Type 0 where
  pub sequence : Sequence
  pub is : sequence_on s h now ≡ Some sequence
  pub thread : sequence.thread ≡ t
  pub begins : IsIn s (range_of form at) t sequence.begun
  pub reached : sequence.reached ≡ now
  pub pc : (file s t now).pc ≡ at + 4 * committed form
  pub does : form.Whole s h t sequence.begun now
