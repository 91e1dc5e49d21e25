-- Laws of what instructions do: it is what their class asks, and stays within words.
use Rattle.std.specs.Prelude.{ℕ, ◌≡◌, ◌^◌, ◌<◌, ◌&&◌, List, [], ◌∷◌, map, length, if◌then◌else◌, Option, Some, None, Bool, true, is_none}
use Rattle.std.specs.List.{AllByRecursion}
use Rattle.mach_types.specs.Bytes.{each_byte}
use Rattle.mach_types.specs.declared.registers.Regs.{Regs}
use Rattle.mach_types.specs.declared.user_memory.Store.{Store}
use Rattle.rv_inst.specs.Class.{asks, is_plain_store, sets_register}
use Rattle.rv_inst.specs.Execution.{Outcome, outcome, fault_in, made_at_once}
use Rattle.rv_inst.specs.Local.{is_register_only}
use Rattle.rv_inst.specs.Meaning.{meaning}
use Rattle.rv_inst.specs.declared.class.Access.{Access}
use Rattle.rv_inst.specs.declared.effects.Effect.{Effect}
use Rattle.rv_inst.specs.declared.instruction.Inst.{Inst}

-- the instructions of the rows that touch registers alone set a register and do nothing else, where they
-- don't fault, and no others do so
abbrev pub LocalRowsSetRegisters : Type 0
LocalRowsSetRegisters = (i : Inst) (r : Regs) (pc : ℕ) (byte : ℕ → Option ℕ) (can_write : ℕ → Bool) →
    (is_register_only i && is_none (fault_in byte can_write (meaning i r pc)))
    ≡ sets_register (meaning i r pc)

-- a hart that stands at an address below 2^64 goes on at one
abbrev pub GoesOnInWords : Type 0
GoesOnInWords = (i : Inst) (r : Regs) (pc : ℕ) (view : ℕ → Option ℕ) (regs : Regs) (reserved : Option ℕ) →
    pc < 2 ^ 64 → (outcome view regs pc reserved (meaning i r pc)).pc < 2 ^ 64

-- one store waits after a plain store, and none after any other instruction
abbrev pub OnlyPlainStoresWait : Type 0
OnlyPlainStoresWait = (view : ℕ → Option ℕ) (regs : Regs) (pc : ℕ) (reserved : Option ℕ) (e : Effect) →
    length (outcome view regs pc reserved e).executed ≡ (if is_plain_store e then 1 else 0)

-- the address and the size of a store, and of the write that an instruction makes, if it makes one
abbrev pub place : Store → ℕ × ℕ
place s = (s.at, s.size)

abbrev pub places : Option Access → List (ℕ × ℕ)
places None = []
places (Some a) = (a.at, a.size) ∷ []

-- what enters memory with an instruction is the write that it makes at once, where it makes one
abbrev pub EntersAsAsked : Type 0
EntersAsAsked = (view : ℕ → Option ℕ) (regs : Regs) (pc : ℕ) (reserved : Option ℕ) (e : Effect) →
    map place (outcome view regs pc reserved e).entered ≡ places (made_at_once reserved (asks e))

-- each byte of a store can be written
abbrev pub MayBeMade : (ℕ → Bool) → Store → Type 0
MayBeMade can_write s = each_byte can_write s.at s.size ≡ true

-- what an outcome lets wait and what it writes at once can be written
abbrev pub IsAllowed : (ℕ → Bool) → Outcome → Type 0
IsAllowed can_write o =
    AllByRecursion (MayBeMade can_write) o.executed × AllByRecursion (MayBeMade can_write) o.entered

-- where an instruction doesn't fault, what it writes, at once or later, can be written
abbrev pub WritesAreAllowed : Type 0
WritesAreAllowed = (byte : ℕ → Option ℕ) (can_write : ℕ → Bool) (view : ℕ → Option ℕ) (regs : Regs) (pc : ℕ)
    (reserved : Option ℕ) (e : Effect) →
    fault_in byte can_write e ≡ None → IsAllowed can_write (outcome view regs pc reserved e)
