use Rattle.std.proofs.Common.{◌≡◌, ℕ, ◌<◌, false, get_or}
use Rattle.elf_load.specs.declared.program_headers.ProgramHeader.{ProgramHeader}
use Rattle.elf_make.specs.Refusals.{is_bad_segment}
use Rattle.elf_make.proofs.refusals.first_bad_segment.Given as goal

abbrev pub invariant-loop-k : goal.invariant-loop-k
invariant-loop-k l = (j : ℕ) (d : ProgramHeader) → j < l.k → is_bad_segment l.segments (j, get_or l.segments j d) ≡ false
