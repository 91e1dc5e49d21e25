-- From a file that was read to a program that was taken.
use Rattle.std.proofs.Common.{◌≡◌, ℕ, ◌<◌, ◌≤◌, All, subst, List, None, length}
use Rattle.mach_types.specs.declared.limits.Limits.{Limits}
use Rattle.elf_load.specs.declared.image.Image.{Image}
use Rattle.elf_load.specs.Faults.{first_fault}
use Rattle.elf_load.specs.Images.{IsImage}
use Rattle.outcomes.specs.Programs.{Files, IsProgram, IsReadAs}
use Rattle.call_reasons.specs.Reasons.{most_program_bytes}

pub program_of : (files : Files) (name : List ℕ) (limits : Limits) (bytes given : List ℕ) (image : Image)
    → given ≡ bytes → IsReadAs files name bytes → All (λ b. b < 256) bytes
    → length bytes ≤ most_program_bytes → first_fault given limits.frames ≡ None → IsImage given image
    → IsProgram files name limits image
program_of files name limits bytes given image same read small fits no_fault loaded = record {
  bytes = bytes;
  read = read;
  are_bytes = small;
  good = record {
    fits = fits;
    no_fault =
        subst (λ (b : List ℕ). first_fault b limits.frames ≡ None) same no_fault;
  };
  loaded = subst (λ (b : List ℕ). IsImage b image) same loaded;
}
