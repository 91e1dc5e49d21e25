-- The files that a command names: a program, whose image it runs, and a script.
use Rattle.std.specs.Prelude.{ℕ, ◌≡◌, ◌<◌, ◌≤◌, All, List, Option, None, Some, IfSome, length}
use Rattle.call_reasons.specs.Reasons.{most_program_bytes, most_script_bytes}
use Rattle.mach_types.specs.declared.limits.Limits.{Limits}
use Rattle.elf_load.specs.declared.fault.ElfFault.{ElfFault}
use Rattle.elf_load.specs.declared.image.Image.{Image}
use Rattle.elf_load.specs.Faults.{first_fault}
use Rattle.elf_load.specs.Images.{IsImage}

-- the bytes of the file of each name, where a shelf tells them
abbrev pub Files : Type 0
Files = List ℕ → Option (List ℕ)

-- the file of this name was read as these bytes: they are its bytes, where the shelf tells them
abbrev pub IsReadAs : Files → List ℕ → List ℕ → Type 0
IsReadAs files name bytes = IfSome (files name) (λ told. bytes ≡ told)

-- the file of this name, where the shelf tells it, has more bytes than it may
abbrev pub IsTooBig : Files → List ℕ → ℕ → Type 0
IsTooBig files name most = IfSome (files name) (λ told. most < length told)

-- these bytes are a program that the loader takes under the limits: they aren't too many and have no fault
pub record IsGood (limits : Limits) (bytes : List ℕ) : Type 0 where
  pub fits : length bytes ≤ most_program_bytes
  pub no_fault : first_fault bytes limits.frames ≡ None

-- they aren't too many, and this is their first fault
pub record IsFaulty (limits : Limits) (bytes : List ℕ) (fault : ElfFault) : Type 0 where
  pub fits : length bytes ≤ most_program_bytes
  pub due : first_fault bytes limits.frames ≡ Some fault

-- the program of this name was read and taken, and this is its image
pub record IsProgram (files : Files) (name : List ℕ) (limits : Limits) (image : Image) : Type 0 where
  pub bytes : List ℕ
  pub read : IsReadAs files name bytes
  pub are_bytes : All (λ b. b < 256) bytes
  pub good : IsGood limits bytes
  pub loaded : IsImage bytes image

-- the program of this name was read, and is refused for this fault
pub record IsRefused (files : Files) (name : List ℕ) (limits : Limits) (fault : ElfFault) : Type 0 where
  pub bytes : List ℕ
  pub read : IsReadAs files name bytes
  pub faulty : IsFaulty limits bytes fault

-- the script of this name was read as this text
pub record IsScript (files : Files) (name text : List ℕ) : Type 0 where
  pub read : IsReadAs files name text
  pub fits : length text ≤ most_script_bytes
