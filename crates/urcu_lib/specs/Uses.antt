-- How a program uses the blocks: the premises, one condition at each event.
use Rattle.std.specs.Prelude.{ℕ, ◌≡◌, ◌≢◌, ◌+◌, ◌*◌, ◌<◌, ◌≤◌, ◌^◌, ◌⊎◌, true, List, [], ◌∷◌, ◌++◌}
use Rattle.std.specs.Prelude.{if◌then◌else◌, Some}
use Rattle.mach_types.specs.Bytes.{covers, word_at}
use Rattle.mach_types.specs.Events.{choice_of}
use Rattle.mach_types.specs.Registers.{register}
use Rattle.mach_types.specs.declared.events.Choice.TheVariants as asked
use Rattle.mach_types.specs.declared.events.Kind.TheVariants as kind
use Rattle.mach_types.specs.declared.user_memory.Store.{Store}
use Rattle.alone_laws.specs.Spans.{IsUsable, code_of}
use Rattle.block_model.specs.History.{Event, History, byte, file, kernel, running}
use Rattle.block_model.specs.Setting.{Setting}
use Rattle.urcu_lib.specs.Blocks.{AreBlocks, Urcu, counter_bytes, slot_bytes}
use Rattle.urcu_lib.specs.declared.regs.ReadRegs.{ReadRegs}
use Rattle.urcu_lib.specs.declared.regs.SyncRegs.{SyncRegs}
use Rattle.fence_laws.specs.Kept.{IsQuiet}
use Rattle.urcu_lib.specs.Sections.{IsExecAt, IsGraceBegin, IsLockStore, IsSection, IsSyncEntry, IsSyncStore}
use Rattle.urcu_lib.specs.Sections.{IsSyncing, IsUnlockStore}

-- what was stored last at an address, by whichever hart; before, a number
abbrev pub stored_over : ℕ → List Store → ℕ → ℕ
stored_over at [] old = old
stored_over at (w ∷ ws) old = stored_over at ws (if covers w at then w.value else old)

abbrev pub counted : ℕ → ℕ → History → ℕ
counted at first [] = first
counted at first (e ∷ before) = stored_over at e.done.executed (counted at first before)

-- HOW A THREAD COMES TO STAND IN A BLOCK

-- an address is that of one of so many instructions of a block
abbrev pub IsIn : ℕ → ℕ → ℕ → Type 0
IsIn at count pc = (k : ℕ) × (k < count) × (pc ≡ at + 4 * k)

-- an event executes no instruction of the block for thread t; nor does one among several
abbrev pub IsElsewhere : ℕ → ℕ → ℕ → Event → Type 0
IsElsewhere at count t e = choice_of e.entry ≡ asked.Exec → e.entry.tid.0 ≡ t → IsIn at count e.entry.pc → ⊥

abbrev pub AreElsewhere : ℕ → ℕ → ℕ → List Event → Type 0
AreElsewhere at count t [] = Unit {0}
AreElsewhere at count t (e ∷ since) = AreElsewhere at count t since × IsElsewhere at count t e

-- how a thread comes by an event to stand in a block behind the block's first instruction: it executed an
-- instruction of the block; its barrier returned there; or it goes on as it stood at an earlier place, since
-- which it has executed none of so many of the block's instructions. With no event since, the event left it
-- as it was; else a handler of a signal came between and has returned (rt_sigreturn)
pub data HasCome (s : Setting) (at count kept t : ℕ) (e : Event) (before : History) : Type 0 where
  acts : e.entry.tid.0 ≡ t → choice_of e.entry ≡ asked.Exec → IsIn at count e.entry.pc
      → HasCome s at count kept t e before
  returns : choice_of e.entry ≡ asked.Done → (file s t before).pc ≡ at + 20
      → (file s t (e ∷ before)).pc ≡ at + 20 → HasCome s at count kept t e before
  goes_on : (old : History) (since : List Event) → before ≡ since ++ old → AreElsewhere at kept t (e ∷ since)
      → file s t (e ∷ before) ≡ file s t old
      → HasCome s at count kept t e before

-- an event may move a thread: it is one of the hart on which the thread runs, or the thread begins to run by
-- it
abbrev pub MaySet : Setting → ℕ → Event → History → Type 0
MaySet s t e before =
    (running s e.entry.hart.0 before ≡ Some t) ⊎ ((e.entry.kind ≡ kind.Run) × (e.entry.tid.0 ≡ t))

-- a register of the thread of an event, before it
abbrev pub register_of : Setting → Event → History → ℕ → ℕ
register_of s e before r = register (file s e.entry.tid.0 before).file r

-- EACH EVENT

pub record IsUse (s : Setting) (u : Urcu) (first : ℕ) (e : Event) (before : History) : Type 0 where
  -- the words can be read and written where an instruction is executed
  pub counter_usable : choice_of e.entry ≡ asked.Exec → IsUsable s (counter_bytes u) before
  pub slot_usable : (i : ℕ) → i < u.slot_count → choice_of e.entry ≡ asked.Exec
      → IsUsable s (slot_bytes u i) before
  -- only these blocks write the counter and the slots
  pub counter : IsQuiet (counter_bytes u) e ⊎ IsSyncStore u e
  pub slot : (i : ℕ) → i < u.slot_count → IsQuiet (slot_bytes u i) e ⊎
      (IsLockStore s u i e before ⊎ IsUnlockStore s u i e before)
  -- each slot is written by one thread, by lock and unlock in turn
  pub writer : (i : ℕ) → i < u.slot_count → IsLockStore s u i e before ⊎ IsUnlockStore s u i e before
      → e.entry.tid.0 ≡ u.reader i
  pub turns : (i : ℕ) (section : History) → i < u.slot_count → IsLockStore s u i e before
      → IsSection s u i section before → ⊥
  -- the counter doesn't pass 2^64 - 1
  pub small : IsSyncStore u e → counted u.counter first before + 1 < 2 ^ 64
  -- one thread at a time is in a sync block, and before that block's last instruction it enters none again. A
  -- thread that has ended is in none
  pub alone : (at t : ℕ) (r : SyncRegs) (begun : History) → u.syncs at ≡ Some r
      → IsSyncing s at t begun before → IsSyncEntry u e → ⊥
  -- the process has registered for membarrier's private command
  pub registered : (at t : ℕ) (r : SyncRegs) → u.syncs at ≡ Some r → IsGraceBegin at t e
      → (kernel s before).barriers.private ≡ true
  -- each block is entered at its first instruction alone: no jump leads behind it, and no handler's or abort's
  -- address lies there; and a thread that comes back by a handler's return goes on as it was: in a lock block
  -- as at some time in it, in a sync block as when it last left it
  pub locking : (at t : ℕ) (r : ReadRegs) → u.locks at ≡ Some r → MaySet s t e before
      → (file s t (e ∷ before)).pc ≡ at + 4 → HasCome s at 1 0 t e before
  pub syncing : (at t k : ℕ) (r : SyncRegs) → u.syncs at ≡ Some r → 0 < k → k < 17
      → MaySet s t e before → (file s t (e ∷ before)).pc ≡ at + 4 * k → HasCome s at 17 17 t e before
  -- where a thread executes a block's first instruction, its registers hold the addresses of the counter and,
  -- for sync, of slot 0
  pub lock_gp : (at : ℕ) (r : ReadRegs) → u.locks at ≡ Some r → IsExecAt at e
      → register_of s e before r.gp ≡ u.counter
  pub sync_gp : (at : ℕ) (r : SyncRegs) → u.syncs at ≡ Some r → IsExecAt at e
      → register_of s e before r.gp ≡ u.counter
  pub sync_slots : (at : ℕ) (r : SyncRegs) → u.syncs at ≡ Some r → IsExecAt at e
      → register_of s e before r.slots ≡ u.slots

abbrev pub AreUses : Setting → Urcu → ℕ → History → Type 0
AreUses s u first [] = Unit {0}
AreUses s u first (e ∷ before) = AreUses s u first before × IsUse s u first e before

-- how a run begins: the counter is at least 1, and no thread stands in a block
pub record IsStart (s : Setting) (u : Urcu) (first : ℕ) : Type 0 where
  pub counter : word_at (λ a. Some (byte s [] a)) u.counter 8 ≡ Some first
  pub some : 1 ≤ first
  pub fits : first < 2 ^ 64
  pub locking : (at : ℕ) (r : ReadRegs) → u.locks at ≡ Some r → s.program.entry ≢ at + 4
  pub syncing : (at k : ℕ) (r : SyncRegs) → u.syncs at ≡ Some r → 0 < k → k < 17
      → s.program.entry ≢ at + 4 * k

-- the premises of a log
pub record HoldsUrcu (s : Setting) (u : Urcu) (history : History) : Type 0 where
  pub first : ℕ
  pub blocks : AreBlocks (code_of s.program.pages) u
  pub start : IsStart s u first
  pub uses : AreUses s u first history
