-- How a thread uses a block that stands in its program: it comes in at the first word alone, and while it is
-- in the block's sequence nobody touches the pointer of its area but the kernel (rseq(2); own). Each
-- condition is one at an event, read back from it.
use Rattle.std.specs.Prelude.{ℕ, ◌≡◌, ◌≢◌, ◌+◌, ◌*◌, ◌⊎◌, ◌==◌, nat_le, nat_lt, Bool, true, false, [], ◌∷◌, Option}
use Rattle.std.specs.Prelude.{Some}
use Rattle.mach_types.specs.Bytes.{overlay}
use Rattle.mach_types.specs.Kernel.Areas.{area_of, can_read_area, can_read_descriptor, descriptor_at, distance}
use Rattle.mach_types.specs.Kernel.Areas.{has_flags, is_inside, is_out_of_range, is_signed, sequence_of}
use Rattle.mach_types.specs.Kernel.Threads.{is_live}
use Rattle.mach_types.specs.Registers.{register}
use Rattle.mach_types.specs.declared.address_space.TheConstants.{USER_END}
use Rattle.mach_types.specs.declared.events.Kind.TheVariants as kind
use Rattle.mach_types.specs.declared.sequences.Area.{Area}
use Rattle.mach_types.specs.declared.sequences.Seq.{Seq}
use Rattle.mach_types.specs.declared.sequences.TheConstants.{AREA_SIZE, RSEQ_CS}
use Rattle.mach_types.specs.declared.threads.Saved.{Saved}
use Rattle.block_model.specs.Acts.{is_inside_at}
use Rattle.block_model.specs.Events.Signal.{file_interrupted}
use Rattle.block_model.specs.Here.{memory, view}
use Rattle.block_model.specs.History.{Event, History, file, here_in_history, kernel, running}
use Rattle.block_model.specs.Sequences.{interruption_here}
use Rattle.block_model.specs.Setting.{Setting}
use Rattle.alone_laws.specs.Blocks.{among}
use Rattle.alone_laws.specs.Spans.{IsUsable, Leaves}

-- a block as it stands in a program: its first word, which is its retry label; how many words it has; its
-- sequence; the area of its thread, and the register that holds the address of that; and the address of its
-- descriptor
pub record Placed : Type 0 where
  pub at : ℕ
  pub count : ℕ
  pub range : Seq
  pub area : Area
  pub register : ℕ
  pub table : ℕ

-- an address in it: less than its bytes past its first word, modulo 2^64
abbrev pub in_block : Placed → ℕ → Bool
in_block b pc = nat_lt (distance b.at pc) (4 * b.count)

-- the pointer of its area
abbrev pub pointer_of_area : Placed → ℕ → Bool
pointer_of_area b = among (b.area.at + RSEQ_CS) 8

-- its sequence lies in it, behind the first word and before the abort handler; and no address passes the end
-- of those of users
pub record IsWellPlaced (b : Placed) : Type 0 where
  pub within : (pc : ℕ) → is_inside b.range pc ≡ true → in_block b pc ≡ true
  pub first : is_inside b.range b.at ≡ false
  pub handler : is_inside b.range b.range.abort ≡ false
  pub low : is_out_of_range b.range ≡ false
  pub some_table : (b.table == 0) ≡ false
  pub low_table : nat_le USER_END b.table ≡ false

-- HOW A THREAD COMES INTO IT

-- a signal takes thread t out of the block, where it was in it, with this file: at the word at which it was,
-- or at the abort handler
pub record IsTakenOut (s : Setting) (b : Placed) (t : ℕ) (f : Saved) (e : Event) (before : History) : Type 0
  where
    pub signal : e.entry.kind ≡ kind.Signal
    pub runs : running s e.entry.hart.0 before ≡ Some t
    pub inside : in_block b (file s t before).pc ≡ true
    pub saved : f ≡ file_interrupted (here_in_history s before e.entry.hart.0) t
        (interruption_here (here_in_history s before e.entry.hart.0) t)
    pub word : (f.pc ≡ (file s t before).pc) ⊎ (f.pc ≡ b.range.abort)

-- some signal did
abbrev pub HasLeft : Setting → Placed → ℕ → Saved → History → Type 0
HasLeft s b t f [] = ⊥
HasLeft s b t f (e ∷ before) = IsTakenOut s b t f e before ⊎ HasLeft s b t f before

-- an event delivers no signal to thread t
abbrev pub DeliversNone : Setting → ℕ → Event → History → Type 0
DeliversNone s t e before = e.entry.kind ≡ kind.Signal → running s e.entry.hart.0 before ≢ Some t

-- how thread t came to a word of the block by an event: to its first; it was there; it executed another word
-- of the block; it was in the block's sequence, and no signal was delivered to it; or a handler returned to
-- where a signal took it out
pub data Arrives (s : Setting) (b : Placed) (t : ℕ) (e : Event) (before : History) : Type 0 where
  at_first : (file s t (e ∷ before)).pc ≡ b.at → Arrives s b t e before
  stayed : is_live t (kernel s before).threads ≡ true → DeliversNone s t e before
      → (file s t (e ∷ before)).pc ≡ (file s t before).pc → Arrives s b t e before
  executed : running s e.entry.hart.0 before ≡ Some t → e.entry.kind ≡ kind.Exec
      → in_block b (file s t before).pc ≡ true → Arrives s b t e before
  interrupted : is_live t (kernel s before).threads ≡ true → DeliversNone s t e before
      → is_inside b.range (file s t before).pc ≡ true → Arrives s b t e before
  came_back : HasLeft s b t (file s t (e ∷ before)) before → Arrives s b t e before

-- WHAT STANDS, AND WHO WRITES

-- where these bytes are read, the descriptor names the block's sequence, whose signature is the area's, and
-- no flag is set
pub record IsDescribed (byte : ℕ → Option ℕ) (b : Placed) : Type 0 where
  pub area_read : can_read_area byte b.area ≡ true
  pub descriptor_read : can_read_descriptor byte b.table ≡ true
  pub version : (descriptor_at byte b.table).version ≡ 0
  pub sequence : sequence_of (descriptor_at byte b.table) ≡ b.range
  pub signed : is_signed byte b.area b.range ≡ true
  pub no_flags : has_flags byte b.area (descriptor_at byte b.table) ≡ false

-- where thread t is in the block's sequence, the area is the thread's, its pointer can be read and written,
-- and the descriptor stands: as its hart sees it where it runs, and else in memory
pub record HasItsArea (s : Setting) (b : Placed) (t : ℕ) (before : History) : Type 0 where
  pub registered : area_of t (kernel s before).areas ≡ Some b.area
  pub usable : IsUsable s (pointer_of_area b) before
  pub on_hart : (h : ℕ) → running s h before ≡ Some t → IsDescribed (view (here_in_history s before h)) b
  pub off_hart : ((h : ℕ) → running s h before ≢ Some t) → (h : ℕ)
      → IsDescribed (memory (here_in_history s before h)) b

-- an event while thread t is in the block's sequence leaves the pointer of its area, but for the kernel's
-- interruption of the thread; a store of its own hart that enters memory was there before
pub record LeavesPointer (s : Setting) (b : Placed) (t : ℕ) (e : Event) (before : History) : Type 0 where
  pub others : running s e.entry.hart.0 before ≢ Some t → (e.entry.kind ≡ kind.Run → e.entry.tid.0 ≢ t)
      → Leaves (pointer_of_area b) e.done.entered
  pub own : running s e.entry.hart.0 before ≡ Some t → e.entry.kind ≡ kind.Exec
      → Leaves (pointer_of_area b) e.done.entered
  pub stores : running s e.entry.hart.0 before ≡ Some t
      → (a c : ℕ) → pointer_of_area b a ≡ true → overlay e.done.executed a c ≡ c

-- EACH EVENT

pub record IsUsed (s : Setting) (b : Placed) (t : ℕ) (e : Event) (before : History) : Type 0 where
  pub enters : in_block b (file s t (e ∷ before)).pc ≡ true → Arrives s b t e before
  pub registers : (h : ℕ) → running s h before ≡ Some t → in_block b (file s t before).pc ≡ true
      → register (file s t before).file b.register ≡ b.area.at
  pub area : is_inside b.range (file s t before).pc ≡ true → HasItsArea s b t before
  pub pointer : is_inside b.range (file s t before).pc ≡ true → LeavesPointer s b t e before

-- every event of a history, and its beginning
abbrev pub AreUsed : Setting → Placed → ℕ → History → Type 0
AreUsed s b t [] = in_block b s.program.entry ≡ true → s.program.entry ≡ b.at
AreUsed s b t (e ∷ before) = AreUsed s b t before × IsUsed s b t e before

-- BEFORE THE SEQUENCE

-- an address in a block before its sequence
abbrev pub is_before : Placed → ℕ → Bool
is_before b pc = nat_lt (distance b.at pc) (distance b.at b.range.start)

-- thread t, which runs on hart h before the block's sequence, can begin it: the area is the thread's and can
-- be read and written
pub record CanBegin (s : Setting) (b : Placed) (h t : ℕ) (before : History) : Type 0 where
  pub registered : area_of t (kernel s before).areas ≡ Some b.area
  pub usable : IsUsable s (among b.area.at AREA_SIZE) before

-- before every event of a history
abbrev pub CanAlwaysBegin : Setting → Placed → ℕ → History → Type 0
CanAlwaysBegin s b t [] = Unit {0}
CanAlwaysBegin s b t (e ∷ before) =
    CanAlwaysBegin s b t before
    × ((h : ℕ) → running s h before ≡ Some t → is_before b (file s t before).pc ≡ true → CanBegin s b h t before)

-- and there it is inside no sequence
abbrev pub AlwaysOutside : Setting → Placed → ℕ → History → Type 0
AlwaysOutside s b t [] = Unit {0}
AlwaysOutside s b t (e ∷ before) =
    AlwaysOutside s b t before
    × ((h : ℕ) → running s h before ≡ Some t → is_before b (file s t before).pc ≡ true
    → is_inside_at s h before ≡ false)
