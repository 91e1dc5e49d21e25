use Rattle.std.proofs.Common.{◌≡◌, ℕ, ◌<◌, false, get_or}
use Rattle.elf_load.specs.declared.program_headers.ProgramHeader.{ProgramHeader}
use Rattle.elf_load.specs.Images.{holds}
use Rattle.elf_load.proofs.loading.table_address.Given as goal

abbrev pub invariant-loop-header : goal.invariant-loop-header
invariant-loop-header l = (k : ℕ) (d : ProgramHeader) → k < l.header-index → holds l.offset l.size (get_or l.headers k d) ≡ false
