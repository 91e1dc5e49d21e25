-- What the file of a guest is, and why none is made (own).
use Rattle.std.specs.Prelude.{ℕ, ◌≡◌, ◌<◌, ◌≤◌, List, Some, None, All, length, false, true}
use Rattle.elf_load.specs.declared.image.Image.{Image}
use Rattle.elf_load.specs.declared.image.ImagePage.{ImagePage}
use Rattle.elf_load.specs.Faults.{first_fault}
use Rattle.elf_load.specs.Images.{IsImage}
use Rattle.guest_names.specs.Guests.{is_size}
use Rattle.guest_names.specs.declared.names.Name.{Name}
use Rattle.guest_names.specs.declared.names.Name.TheVariants.{Counter, List as Lists, Pool, Dekker, Signals, Migrate, Ring, Urcu}
use Rattle.percpu_lib.specs.Adds.{add_lines}
use Rattle.percpu_lib.specs.Allocs.{alloc_lines}
use Rattle.percpu_lib.specs.Frees.{free_lines}
use Rattle.percpu_lib.specs.Pops.{pop_lines}
use Rattle.percpu_lib.specs.Pushes.{push_lines}
use Rattle.percpu_lib.specs.Rings.{ring_get_lines, ring_put_lines}
use Rattle.guest_programs.specs.Blocks.{ImageHoldsBlock, HoldsRcu, start_word}
use Rattle.guest_programs.specs.Programs.{IsGuestElf}
use Rattle.guest_programs.specs.declared.fault.GuestFault.{GuestFault}
use Rattle.guest_programs.specs.declared.fault.GuestFault.TheVariants.{BadSize, NoMemory}

-- the blocks that the program of a guest holds
abbrev pub HoldsBlocks : Name → List ImagePage → Type 0
HoldsBlocks Counter pages = ImageHoldsBlock add_lines pages
HoldsBlocks Lists pages = ImageHoldsBlock push_lines pages × ImageHoldsBlock pop_lines pages
HoldsBlocks Pool pages = ImageHoldsBlock alloc_lines pages × ImageHoldsBlock free_lines pages
HoldsBlocks Dekker pages = Unit {0}
HoldsBlocks Signals pages = ImageHoldsBlock add_lines pages
HoldsBlocks Migrate pages = ImageHoldsBlock add_lines pages
HoldsBlocks Ring pages = ImageHoldsBlock (λ p base. ring_put_lines p base 4) pages
    × ImageHoldsBlock (λ p base. ring_get_lines p base 4) pages
HoldsBlocks Urcu pages = HoldsRcu pages

-- where the size stands in memory
abbrev pub size_address : ℕ
size_address = 0x20000

-- the ELF file of a guest, of at most 8,388,608 bytes, which is taken with the default frames, and whose image holds
-- the size and the blocks of the guest
pub record IsGuestFile (name : Name) (n : ℕ) (file : List ℕ) : Type 0 where
  pub small : length file ≤ 8388608
  pub are_bytes : All (λ b. b < 256) file
  pub exact : IsGuestElf name n file
  pub taken : first_fault file 4096 ≡ None
  pub told : (image : Image) → IsImage file image
      → start_word image.pages.items size_address ≡ Some n
  pub holds : (image : Image) → IsImage file image → HoldsBlocks name image.pages.items

-- a size is bad exactly where the guest doesn't take it; else memory is short
abbrev pub IsFaultOf : Name → ℕ → GuestFault → Type 0
IsFaultOf name n (BadSize k) = (k ≡ n) × (is_size name n ≡ false)
IsFaultOf name n NoMemory = is_size name n ≡ true
