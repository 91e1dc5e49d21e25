-- One process of a pair, as it is kept.
use Rattle.elf_load.specs.Start.{Program}
use Rattle.shared_procs.specs.declared.half.Half.{Half}

-- the program that it runs
abbrev pub program_in : Half → Program
program_in x = record { pages = x.code; entry = x.entry; phdr = x.phdr; phnum = x.phnum; break_at = x.break_at }
