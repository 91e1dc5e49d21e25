-- The class of an instruction, said once for each effect: the bytes that it touches and how, whether stores
-- of its hart may wait, and the fault that it makes whatever memory is. Accesses, fences and traps are
-- those of the RISC-V Unprivileged ISA (chapters RV32I, RV64I, "A", "Zifencei" and "Ztso"); that FENCE.I
-- and ECALL want an empty store buffer, and which signal a fault is, are own choices that these chapters
-- allow.
use Rattle.std.specs.Prelude.{ℕ, Bool, true, false, Some, None}
use Rattle.mach_types.specs.declared.signals.TheConstants.{SIGTRAP, SIGBUS}
use Rattle.rv_inst.specs.declared.class.Access.{Access}
use Rattle.rv_inst.specs.declared.class.Asks.{Asks}
use Rattle.rv_inst.specs.declared.effects.Effect.{Effect}
use Rattle.rv_inst.specs.declared.effects.Effect.TheVariants as effect

-- nothing is asked
abbrev pub nothing : Asks
nothing = record {
  access = None;
  wants_empty = false;
  is_plain_store = false;
  is_call = false;
  sets_register = false;
  fault = None;
}

-- the access of a load, which need not be aligned
abbrev pub plain_read : ℕ → ℕ → Access
plain_read at size = record {
  at = at;
  size = size;
  is_write = false;
  must_align = false;
  needs_reservation = false;
}

-- that of a plain store, of an LR, of an AMO, and of an SC: the last three must be aligned
abbrev pub plain_write : ℕ → ℕ → Access
plain_write at size = record (plain_read at size) { is_write = true }

abbrev pub reserving_read : ℕ → ℕ → Access
reserving_read at size = record (plain_read at size) { must_align = true }

abbrev pub atomic_write : ℕ → ℕ → Access
atomic_write at size = record (plain_write at size) { must_align = true }

abbrev pub conditional_write : ℕ → ℕ → Access
conditional_write at size = record (atomic_write at size) { needs_reservation = true }

-- what an instruction with this effect asks of its hart and of memory
abbrev pub asks : Effect → Asks
asks (effect.Next rd value pc) = record nothing { sets_register = true }
asks (effect.Load at size is_signed rd) = record nothing { access = Some (plain_read at size) }
asks (effect.Store at size value) =
    record nothing { access = Some (plain_write at size); is_plain_store = true }
asks (effect.Amo op at size value rd) =
    record nothing { access = Some (atomic_write at size); wants_empty = true }
asks (effect.Lr at size rd) = record nothing { access = Some (reserving_read at size); wants_empty = true }
asks (effect.Sc at size value rd) =
    record nothing { access = Some (conditional_write at size); wants_empty = true }
asks (effect.Fence full) = record nothing { wants_empty = full }
asks effect.FenceI = record nothing { wants_empty = true }
asks effect.Call = record nothing { wants_empty = true; is_call = true }
asks effect.Break = record nothing { wants_empty = true; fault = Some SIGTRAP }
asks effect.Misaligned = record nothing { fault = Some SIGBUS }

-- whether an instruction may be executed only where no store of its hart waits
abbrev pub wants_empty : Effect → Bool
wants_empty e = (asks e).wants_empty

-- whether an instruction is a plain store
abbrev pub is_plain_store : Effect → Bool
is_plain_store e = (asks e).is_plain_store

-- whether an instruction is a system call
abbrev pub is_call : Effect → Bool
is_call e = (asks e).is_call

-- whether an instruction sets a register and the pc, and does nothing else: no access, order, call or fault
abbrev pub sets_register : Effect → Bool
sets_register e = (asks e).sets_register
