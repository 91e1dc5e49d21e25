-- Integer registers: x0 is 0 and ignores what is written to it (RISC-V Unprivileged ISA, RV64I).
use Rattle.std.specs.Prelude.{ℕ, ◌==◌, if◌then◌else◌, slice_index, slice_set, replicate}
use Rattle.mach_types.specs.declared.registers.Regs.{Regs}

-- the value of register n
abbrev pub register : Regs → ℕ → ℕ
register r n = if n == 0 then 0 else slice_index r.x n

-- the registers after a value was written to register n
abbrev pub with_register : Regs → ℕ → ℕ → Regs
with_register r n v = if n == 0 then r else record { x = slice_set r.x n v }

-- all registers 0
abbrev pub no_registers : Regs
no_registers = record { x = replicate 32 0 }
