-- Registers that code may change, and those that it leaves as they were.
use Rattle.std.specs.Prelude.{ℕ, ◌≡◌, ◌==◌, ◌||◌, ◌&&◌, Bool, true, false, if◌then◌else◌, List, length}
use Rattle.std.specs.Prelude.{nat_le}
use Rattle.mach_types.specs.Registers.{register}
use Rattle.mach_types.specs.declared.registers.Regs.{Regs}
use Rattle.mach_types.specs.declared.user_memory.Store.{Store}
use Rattle.alone.specs.Alone.{Stand}

-- x5 to x7 and x28 to x31, which a block may change
abbrev pub is_scratch : ℕ → Bool
is_scratch r = (nat_le 5 r && nat_le r 7) || (nat_le 28 r && nat_le r 31)

abbrev pub put : ℕ → ℕ → (ℕ → ℕ) → ℕ → ℕ
put rd value temps r = if r == rd then value else temps r

-- the registers that may change are these, and all others are as they were
pub record IsLike (may : ℕ → Bool) (old : Regs) (temps : ℕ → ℕ) (now : Regs) : Type 0 where
  pub temp : (r : ℕ) → may r ≡ true → register now r ≡ temps r
  pub rest : (r : ℕ) → may r ≡ false → register now r ≡ register old r
  pub many : length now.x ≡ 32

-- where a thread stands: at a pc, with these registers, and with these stores executed
pub record IsAt (may : ℕ → Bool) (old : Regs) (at : ℕ) (temps : ℕ → ℕ) (stores : List Store) (x : Stand)
    : Type 0 where
  pub pc : x.file.pc ≡ at
  pub like : IsLike may old temps x.file.file
  pub executed : x.executed ≡ stores
