-- The registers that the blocks work with.
use Rattle.std.specs.Prelude.{ℕ, ◌≢◌, ◌<◌}
use Rattle.urcu_lib.specs.declared.regs.ReadRegs.{ReadRegs}
use Rattle.urcu_lib.specs.declared.regs.SyncRegs.{SyncRegs}

-- one of x1 to x31
pub record IsRegister (r : ℕ) : Type 0 where
  pub some : r ≢ 0
  pub low : r < 32

pub record AreReadRegs (r : ReadRegs) : Type 0 where
  pub gp : IsRegister r.gp
  pub slot : IsRegister r.slot
  pub scratch : IsRegister r.scratch
  pub gp_slot : r.gp ≢ r.slot
  pub gp_scratch : r.gp ≢ r.scratch
  pub slot_scratch : r.slot ≢ r.scratch

-- one that sync leaves alone
pub record IsKept (r : ℕ) : Type 0 where
  pub not_5 : r ≢ 5
  pub not_6 : r ≢ 6
  pub not_7 : r ≢ 7
  pub not_10 : r ≢ 10
  pub not_11 : r ≢ 11
  pub not_12 : r ≢ 12
  pub not_17 : r ≢ 17

pub record AreSyncRegs (r : SyncRegs) : Type 0 where
  pub gp : IsRegister r.gp
  pub slots : IsRegister r.slots
  pub gp_slots : r.gp ≢ r.slots
  pub gp_kept : IsKept r.gp
  pub slots_kept : IsKept r.slots
