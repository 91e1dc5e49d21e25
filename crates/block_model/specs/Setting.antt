-- What a run starts from, and what is seen of a machine: its setting, its seed and its log.
use Rattle.std.specs.Prelude.{ℕ, List}
use Rattle.mach_types.specs.declared.events.Entry.{Entry}
use Rattle.mach_types.specs.declared.limits.Limits.{Limits}
use Rattle.elf_load.specs.declared.image.Image.{Image}
use Rattle.elf_load.specs.Start.{Program, program_of}

-- the loaded program and the limits
pub record Setting : Type 0 where
  pub program : Program
  pub limits : Limits

-- the setting of an image under limits
abbrev pub setting_of : Image → Limits → Setting
setting_of image limits = record { program = program_of image; limits = limits }

-- a setting with another step limit
abbrev pub with_steps : ℕ → Setting → Setting
with_steps n s = record s { limits = record s.limits { steps = n } }

-- a machine as it is seen: its setting, the seed of its choices, and its log with the oldest entry first
pub record Seen : Type 0 where
  pub setting : Setting
  pub seed : ℕ
  pub log : List Entry
