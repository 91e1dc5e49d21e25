-- What one instruction does to its hart and to memory, once its effect is known. Loads, stores and atomics
-- are those of the RISC-V Unprivileged ISA (chapters RV32I, RV64I, "A" and "Ztso"); that a plain store
-- waits in a buffer of its hart, what a reservation covers, and which signal a fault is, are own choices
-- that these chapters allow.
use Rattle.std.specs.Prelude.{ℕ, ◌+◌, ◌-◌, ◌%◌, ◌==◌, Bool, true, false, not, ◌&&◌, ◌||◌, nat_le, nat_lt, List, [], ◌∷◌, if◌then◌else◌, Option, Some, None, is_some, unwrap_or}
use Rattle.std.specs.Option.{option_map, option_map_or, option_or, option_and_then}
use Rattle.mach_types.specs.Bytes.{word_at, each_byte, overlay}
use Rattle.mach_types.specs.Registers.{with_register}
use Rattle.mach_types.specs.declared.events.Why.{Why}
use Rattle.mach_types.specs.declared.events.Why.TheVariants.{Waiting, FullBuffer}
use Rattle.mach_types.specs.declared.registers.Regs.{Regs}
use Rattle.mach_types.specs.declared.signals.TheConstants.{SIGBUS, SIGSEGV}
use Rattle.mach_types.specs.declared.user_memory.Store.{Store}
use Rattle.mach_types.specs.declared.user_memory.TheConstants.{STORE_BUFFER_CAPACITY}
use Rattle.rv_inst.specs.Class.{asks, wants_empty, is_plain_store}
use Rattle.rv_inst.specs.Memory.{loaded, amo_result}
use Rattle.rv_inst.specs.Words.{sum_64}
use Rattle.rv_inst.specs.declared.class.Access.{Access}
use Rattle.rv_inst.specs.declared.class.Asks.{Asks}
use Rattle.rv_inst.specs.declared.effects.Effect.{Effect}
use Rattle.rv_inst.specs.declared.effects.Effect.TheVariants as effect

-- a byte as a hart sees it: that of its youngest waiting store that has it, else memory's; nothing where
-- memory can't be read
abbrev pub seen_byte : List Store → (ℕ → Option ℕ) → ℕ → Option ℕ
seen_byte waiting byte a = option_map (overlay waiting a) (byte a)

-- the signals of faults: an address that isn't aligned, and one that can't be used so
abbrev pub unless_aligned : ℕ → ℕ → Option ℕ → Option ℕ
unless_aligned at size fault = if at % size == 0 then fault else Some SIGBUS

abbrev pub unless_allowed : Bool → Option ℕ
unless_allowed allowed = if allowed then None else Some SIGSEGV

-- whether the bytes can be read
abbrev pub is_readable : (ℕ → Option ℕ) → ℕ → ℕ → Bool
is_readable byte at size = is_some (word_at byte at size)

-- whether each byte of an access can be written, or read, as it needs
abbrev pub is_allowed : (ℕ → Option ℕ) → (ℕ → Bool) → Access → Bool
is_allowed byte can_write a =
    if a.is_write then each_byte can_write a.at a.size else is_readable byte a.at a.size

-- the signal of the first fault of an access: it must be aligned and isn't; a byte can't be read, or written
abbrev pub access_fault : (ℕ → Option ℕ) → (ℕ → Bool) → Access → Option ℕ
access_fault byte can_write a =
    if a.must_align
    then unless_aligned a.at a.size (unless_allowed (is_allowed byte can_write a))
    else unless_allowed (is_allowed byte can_write a)

-- the signal of the first fault of an instruction that was fetched and has a row, none where it has no
-- fault: the one that it raises whatever memory is, else that of its access
abbrev pub fault_in : (ℕ → Option ℕ) → (ℕ → Bool) → Effect → Option ℕ
fault_in byte can_write e =
    option_or (asks e).fault (option_and_then (access_fault byte can_write) (asks e).access)

-- the condition of an instruction that fails where so many stores of its hart wait, the first of them: a
-- store waits, and the instruction faults or wants none to wait; or the buffer is full, and it is a plain
-- store. There is no effect where nothing was fetched or decoded
abbrev pub instruction_gate : ℕ → Option Effect → Bool → Option Why
instruction_gate waiting done faults =
    if nat_lt 0 waiting && (faults || option_map_or wants_empty done false) then Some Waiting
    else if nat_le STORE_BUFFER_CAPACITY waiting && option_map_or is_plain_store done false
    then Some FullBuffer
    else None

-- the aligned 8 bytes round an address begin here
abbrev pub reserved_at : ℕ → ℕ
reserved_at at = at - at % 8

-- whether one of the bytes of a write is among the 8 from r on; a write of no bytes has none there
abbrev pub has_reserved : ℕ → ℕ → ℕ → Bool
has_reserved r at size = nat_lt 0 size && (nat_lt r (at + size) && nat_lt at (r + 8))

-- a reservation after another hart or the kernel wrote these bytes
abbrev pub lost_by : ℕ → ℕ → Option ℕ → Option ℕ
lost_by at size None = None
lost_by at size (Some r) = if has_reserved r at size then None else Some r

-- whether a reservation is that of an address: SC succeeds exactly there
abbrev pub is_reserved : Option ℕ → ℕ → Bool
is_reserved None at = false
is_reserved (Some r) at = r == reserved_at at

-- whether an access is a write that is made: the reservation that it needs, if any, is that of its address
abbrev pub is_made : Option ℕ → Access → Bool
is_made reserved a = a.is_write && (not a.needs_reservation || is_reserved reserved a.at)

abbrev pub if_made : Option ℕ → Access → Option Access
if_made reserved a = if is_made reserved a then Some a else None

-- the write that an instruction which asks so makes at once, with this reservation; a plain store waits
abbrev pub made_at_once : Option ℕ → Asks → Option Access
made_at_once reserved asked =
    if asked.is_plain_store then None else option_and_then (if_made reserved) asked.access

-- the word that an access reads
abbrev pub word_seen : (ℕ → Option ℕ) → ℕ → ℕ → ℕ
word_seen view at size = unwrap_or (word_at view at size) 0

-- what an instruction leaves: the registers and the pc; the plain store that it executed, which now waits;
-- the write that entered memory with it; and its hart's reservation
pub record Outcome : Type 0 where
  pub regs : Regs
  pub pc : ℕ
  pub executed : List Store
  pub entered : List Store
  pub reserved : Option ℕ

-- registers and pc as they were, and nothing done
abbrev pub unmoved : Regs → ℕ → Option ℕ → Outcome
unmoved regs pc reserved = record { regs = regs; pc = pc; executed = []; entered = []; reserved = reserved }

-- the same, 4 bytes further, with a value in rd
abbrev pub further : Regs → ℕ → ℕ → ℕ → Option ℕ → Outcome
further regs rd value pc reserved = record { regs = with_register regs rd value; pc = sum_64 pc 4; executed = []; entered = []; reserved = reserved }

-- what an instruction with this effect does, where its bytes are seen so, and it doesn't fault. Of AMO, LR
-- and SC the bytes seen are memory's, since no store of the hart waits. A call is left to the kernel
abbrev pub outcome : (ℕ → Option ℕ) → Regs → ℕ → Option ℕ → Effect → Outcome
outcome view regs pc reserved (effect.Next rd value to) = record { regs = with_register regs rd value; pc = to; executed = []; entered = []; reserved = reserved }
outcome view regs pc reserved (effect.Load at size is_signed rd) = further regs rd (loaded (word_seen view at size) size is_signed) pc reserved
outcome view regs pc reserved (effect.Store at size value) = record (further regs 0 0 pc reserved) { executed = record { at = at; size = size; value = value } ∷ [] }
outcome view regs pc reserved (effect.Amo op at size value rd) =
    record (further regs rd (loaded (word_seen view at size) size true) pc reserved) {
      entered = record { at = at; size = size; value = amo_result op size (word_seen view at size) value } ∷ [];
    }
outcome view regs pc reserved (effect.Lr at size rd) = further regs rd (loaded (word_seen view at size) size true) pc (Some (reserved_at at))
outcome view regs pc reserved (effect.Sc at size value rd) =
    if is_reserved reserved at
    then record (further regs rd 0 pc None) { entered = record { at = at; size = size; value = value } ∷ [] }
    else further regs rd 1 pc None
outcome view regs pc reserved (effect.Fence full) = further regs 0 0 pc reserved
outcome view regs pc reserved effect.FenceI = further regs 0 0 pc reserved
outcome view regs pc reserved effect.Call = unmoved regs pc reserved
outcome view regs pc reserved effect.Break = unmoved regs pc reserved
outcome view regs pc reserved effect.Misaligned = unmoved regs pc reserved
