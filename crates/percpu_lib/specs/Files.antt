-- Code that stands in an ELF file (System V ABI, "Program Loading").
use Rattle.std.specs.Prelude.{ℕ, ◌≡◌, ◌+◌, ◌/◌, ◌%◌, ◌^◌, ◌<◌, ◌≤◌, true, List, length, slice_index, Some}
use Rattle.mach_types.specs.Kernel.Pages.{can_execute}
use Rattle.mach_types.specs.declared.address_space.TheConstants.{PAGE_SIZE}
use Rattle.elf_load.specs.Images.{memory_byte, page_permission}

-- in the memory with which the program of a file starts, these bytes stand from an address on, which is a
-- multiple of 4: on pages that may be executed, and below those of the stack
pub record HoldsCode (file : List ℕ) (at : ℕ) (bytes : List ℕ) : Type 0 where
  pub aligned : at % 4 ≡ 0
  pub low : at + length bytes ≤ 2 ^ 37
  pub bytes_are : (k : ℕ) → k < length bytes → memory_byte file (at + k) ≡ slice_index bytes k
  pub executable : (k : ℕ) → k < length bytes
      → can_execute (Some (page_permission file ((at + k) / PAGE_SIZE))) ≡ true
