-- Sections and grace periods, read from a log.
use Rattle.std.specs.Prelude.{ℕ, ◌≡◌, ◌+◌, ◌<◌, ◌∷◌, length, Some, true}
use Rattle.mach_types.specs.Events.{choice_of}
use Rattle.mach_types.specs.Kernel.Threads.{is_live}
use Rattle.mach_types.specs.Registers.{register}
use Rattle.mach_types.specs.declared.events.Choice.TheVariants as asked
use Rattle.block_model.specs.History.{Event, History, file, kernel}
use Rattle.block_model.specs.Setting.{Setting}
use Rattle.urcu_lib.specs.Blocks.{Urcu, slot_at}
use Rattle.urcu_lib.specs.declared.regs.ReadRegs.{ReadRegs}
use Rattle.urcu_lib.specs.declared.regs.SyncRegs.{SyncRegs}

-- an event executes the instruction at an address
pub record IsExecAt (at : ℕ) (e : Event) : Type 0 where
  pub executes : choice_of e.entry ≡ asked.Exec
  pub pc : e.entry.pc ≡ at

-- it executes the store of a lock block, or of an unlock block, to slot i
pub record IsLockStore (s : Setting) (u : Urcu) (i : ℕ) (e : Event) (before : History) : Type 0 where
  pub place : ℕ
  pub regs : ReadRegs
  pub block : u.locks place ≡ Some regs
  pub exec : IsExecAt (place + 4) e
  pub to : register (file s e.entry.tid.0 before).file regs.slot ≡ slot_at u i

pub record IsUnlockStore (s : Setting) (u : Urcu) (i : ℕ) (e : Event) (before : History) : Type 0 where
  pub place : ℕ
  pub regs : ReadRegs
  pub block : u.unlocks place ≡ Some regs
  pub exec : IsExecAt place e
  pub to : register (file s e.entry.tid.0 before).file regs.slot ≡ slot_at u i

-- the store of a sync block to the counter
pub record IsSyncStore (u : Urcu) (e : Event) : Type 0 where
  pub place : ℕ
  pub regs : SyncRegs
  pub block : u.syncs place ≡ Some regs
  pub exec : IsExecAt (place + 28) e

-- a section of slot i that began by the event after `begun` goes on: no event since was the store of an
-- unlock block to the slot
pub data IsSection (s : Setting) (u : Urcu) (i : ℕ) (begun : History) : History → Type 0 where
  enters : (e : Event) → IsLockStore s u i e begun → IsSection s u i begun (e ∷ begun)
  goes : (e : Event) (before : History) → IsSection s u i begun before → (IsUnlockStore s u i e before → ⊥)
      → IsSection s u i begun (e ∷ before)

-- thread t executes the `ecall` of the sync block at an address, and its last instruction
pub record IsGraceBegin (at t : ℕ) (e : Event) : Type 0 where
  pub exec : IsExecAt (at + 16) e
  pub of : e.entry.tid.0 ≡ t

pub record IsGraceEnd (at t : ℕ) (e : Event) : Type 0 where
  pub exec : IsExecAt (at + 64) e
  pub of : e.entry.tid.0 ≡ t

-- a grace period of the thread in that block that began by the event after `begun` goes on
pub data IsGrace (at t : ℕ) (begun : History) : History → Type 0 where
  calls : (e : Event) → IsGraceBegin at t e → IsGrace at t begun (e ∷ begun)
  waits : (e : Event) (before : History) → IsGrace at t begun before → (IsGraceEnd at t e → ⊥)
      → IsGrace at t begun (e ∷ before)

-- where a grace period ends, no section of a slot for which its block waits goes on that began before the
-- grace period began
abbrev pub HaveEnded : Setting → Urcu → ℕ → ℕ → History → Type 0
HaveEnded s u at t before =
    (i : ℕ) (section grace : History) → i < u.readers at → IsGrace at t grace before
    → IsSection s u i section before → length section < length grace → ⊥

-- WHO IS IN A SYNC BLOCK

-- an event executes the first instruction of some sync block
pub record IsSyncEntry (u : Urcu) (e : Event) : Type 0 where
  pub place : ℕ
  pub regs : SyncRegs
  pub block : u.syncs place ≡ Some regs
  pub exec : IsExecAt place e

-- thread t is in the sync block at an address, which it entered by the event after `begun`: it has executed
-- the block's first instruction, and its last not yet, and it lives
pub data IsSyncing (s : Setting) (at t : ℕ) (begun : History) : History → Type 0 where
  comes_in : (e : Event) → IsExecAt at e → e.entry.tid.0 ≡ t → IsSyncing s at t begun (e ∷ begun)
  is_in : (e : Event) (before : History) → IsSyncing s at t begun before → (IsGraceEnd at t e → ⊥)
      → is_live t (kernel s (e ∷ before)).threads ≡ true → IsSyncing s at t begun (e ∷ before)
