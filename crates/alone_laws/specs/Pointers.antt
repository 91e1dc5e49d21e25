-- Who writes the pointer of an area (rseq(2), `rseq_cs`) from its first registration on: the instructions of its
-- thread just before the starts of blocks, and the kernel, which makes it 0 where it interrupts the thread (own).
use Rattle.std.specs.Prelude.{ℕ, ◌≡◌, ◌≢◌, ◌+◌, ◌<◌, ◌^◌, ◌||◌, ◌==◌, ◌++◌, ◌⊎◌, Bool, true, false, List, [], ◌∷◌}
use Rattle.std.specs.Prelude.{Contains, Some}
use Rattle.std.specs.Option.{option_map_or}
use Rattle.mach_types.specs.Bytes.{overlay, word_at}
use Rattle.mach_types.specs.Kernel.Areas.{area_of, descriptor_at, is_inside, sequence_of, writes_of}
use Rattle.mach_types.specs.declared.events.Kind.TheVariants as kind
use Rattle.mach_types.specs.declared.sequences.Area.{Area}
use Rattle.mach_types.specs.declared.sequences.TheConstants.{RSEQ_CS}
use Rattle.mach_types.specs.declared.user_memory.Write.{Write}
use Rattle.block_model.specs.Here.{view}
use Rattle.block_model.specs.History.{Event, History, byte, file, here_in_history, kernel, running}
use Rattle.block_model.specs.Sequences.{interruption_here}
use Rattle.block_model.specs.Setting.{Setting}
use Rattle.alone_laws.specs.Blocks.{among}
use Rattle.alone_laws.specs.Spans.{Leaves, seen_at}
use Rattle.alone_laws.specs.Uses.{Placed, is_before}

-- the area at an address is registered for thread t; and it was at some place up to here
abbrev pub is_at : ℕ → Area → Bool
is_at at area = area.at == at

abbrev pub has_area : ℕ → ℕ → List (ℕ × Area) → Bool
has_area t at areas = option_map_or (is_at at) (area_of t areas) false

abbrev pub has_had : Setting → ℕ → ℕ → History → Bool
has_had s t at [] = false
has_had s t at (e ∷ before) = has_area t at e.done.kernel.areas || has_had s t at before

-- the pointer of the area at an address
abbrev pub pointer_at : ℕ → ℕ → Bool
pointer_at at = among (at + RSEQ_CS) 8

-- it is a number: as its thread's hart sees it where the thread runs, and else in memory
pub record PointerIs (s : Setting) (t at n : ℕ) (before : History) : Type 0 where
  pub on_hart : (h : ℕ) → running s h before ≡ Some t → word_at (seen_at s h before) (at + RSEQ_CS) 8 ≡ Some n
  pub off_hart : ((h : ℕ) → running s h before ≢ Some t)
      → word_at (λ a. Some (byte s before a)) (at + RSEQ_CS) 8 ≡ Some n

-- the instruction just before the start of a block stores the address of the block's descriptor in it
pub record StoresTable (s : Setting) (b : Placed) (t at : ℕ) (e : Event) (before : History) : Type 0 where
  pub pc : (file s t before).pc + 4 ≡ b.range.start
  pub executed : e.done.executed ≡ record { at = at + RSEQ_CS; size = 8; value = b.table } ∷ []

-- once the area was registered for thread t, an event of another hart leaves the pointer, and so does what a
-- call, a store-conditional or an atomic instruction of the thread writes. An instruction of the thread stores to
-- it just before the start of one of some blocks alone. The kernel's writes for the thread leave it: those of a
-- signal's frame, behind those of the interruption, and all where another area is registered for the thread, or
-- none
pub record WritesPointer (s : Setting) (blocks : List Placed) (t at : ℕ) (e : Event) (before : History) : Type 0
  where
    pub others : running s e.entry.hart.0 before ≢ Some t → (e.entry.kind ≡ kind.Run → e.entry.tid.0 ≢ t)
        → Leaves (pointer_at at) e.done.entered
    pub own : running s e.entry.hart.0 before ≡ Some t → e.entry.kind ≡ kind.Exec
        → Leaves (pointer_at at) e.done.entered
    pub stores : running s e.entry.hart.0 before ≡ Some t
        → ((a c : ℕ) → pointer_at at a ≡ true → overlay e.done.executed a c ≡ c)
        ⊎ ((b : Placed) × Contains blocks b × StoresTable s b t at e before)
    pub frame : (ws : List Write) → running s e.entry.hart.0 before ≡ Some t → e.entry.kind ≡ kind.Signal
        → e.done.entered ≡ writes_of (area_of t (kernel s before).areas)
        (interruption_here (here_in_history s before e.entry.hart.0) t) ++ ws
        → Leaves (pointer_at at) ws
    pub elsewhere : (running s e.entry.hart.0 before ≡ Some t)
        ⊎ ((e.entry.kind ≡ kind.Run) × (e.entry.tid.0 ≡ t))
        → has_area t at (kernel s before).areas ≡ false → e.entry.kind ≢ kind.Drain
        → Leaves (pointer_at at) e.done.entered

-- every event of a history: at its first registration the pointer is 0
pub record KeepsPointer (s : Setting) (blocks : List Placed) (t at : ℕ) (e : Event) (before : History) : Type 0
  where
    pub first : has_had s t at before ≡ false → has_area t at e.done.kernel.areas ≡ true
        → PointerIs s t at 0 (e ∷ before)
    pub later : has_had s t at before ≡ true → WritesPointer s blocks t at e before

abbrev pub PointerKept : Setting → List Placed → ℕ → ℕ → History → Type 0
PointerKept s blocks t at [] = Unit {0}
PointerKept s blocks t at (e ∷ before) = PointerKept s blocks t at before × KeepsPointer s blocks t at e before

-- a block beside another: its sequence has no word of the other's before its sequence
pub record LiesBeside (b other : Placed) : Type 0 where
  pub low_table : other.table < 2 ^ 64
  pub apart : (pc : ℕ) → is_before b pc ≡ true → is_inside other.range pc ≡ false

-- the descriptors of blocks stand, as hart h sees them
pub record AreDescribed (s : Setting) (blocks : List Placed) (h : ℕ) (before : History) : Type 0 where
  pub described : (b : Placed) → Contains blocks b
      → sequence_of (descriptor_at (view (here_in_history s before h)) b.table) ≡ b.range

-- so they do before every event of a history, where thread t runs in a block before its sequence
abbrev pub AlwaysDescribed : Setting → Placed → List Placed → ℕ → History → Type 0
AlwaysDescribed s b blocks t [] = Unit {0}
AlwaysDescribed s b blocks t (e ∷ before) =
    AlwaysDescribed s b blocks t before
    × ((h : ℕ) → running s h before ≡ Some t → is_before b (file s t before).pc ≡ true
    → AreDescribed s blocks h before)
