-- Sizes of accesses: 1, 2, 4 and 8 bytes (RISC-V Unprivileged ISA, sections "Load and Store Instructions" and chapter "A").
use Rattle.mach_types.specs.Bytes.{IsAccessSize}
use Rattle.mach_types.specs.declared.registers.Regs.{Regs}
use Rattle.std.specs.Prelude.{ℕ, IfSome}
use Rattle.rv_inst.specs.Class.{asks}
use Rattle.rv_inst.specs.Meaning.{meaning}
use Rattle.rv_inst.specs.declared.class.Access.{Access}
use Rattle.rv_inst.specs.declared.effects.Effect.{Effect}
use Rattle.rv_inst.specs.declared.instruction.Inst.{Inst}

-- an access has such a size
abbrev pub IsSized : Access → Type 0
IsSized a = IsAccessSize a.size

-- the bytes that an instruction with this effect touches, if any, are those of an access
abbrev pub HasAccessSizes : Effect → Type 0
HasAccessSizes e = IfSome (asks e).access IsSized

-- what an instruction means has such sizes alone
abbrev pub MeansAccesses : Type 0
MeansAccesses = (i : Inst) (r : Regs) (pc : ℕ) → HasAccessSizes (meaning i r pc)
