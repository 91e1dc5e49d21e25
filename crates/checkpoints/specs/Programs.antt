-- A program that can be played (own).
use Rattle.std.specs.Prelude.{◌≡◌}
use Rattle.mach_types.specs.Limits.{InRange}
use Rattle.elf_load.specs.Images.{IsBootable}
use Rattle.block_model.specs.Setting.{Setting, setting_of}
use Rattle.checkpoints.specs.declared.program.Program.{Program}

-- it can be booted within limits that are in range, and these are its instructions
pub record IsProgram (p : Program) : Type 0 where
  pub bootable : IsBootable p.limits.frames p.image.now
  pub in_range : InRange p.limits
  pub code : p.code.now ≡ p.image.now.pages.items

abbrev pub setting_for : Program → Setting
setting_for p = setting_of p.image.now p.limits
