use Rattle.std.proofs.Common.{◌≡◌, ◌++◌, take}
use Rattle.std.specs.List.{flat_map}
use Rattle.elf_make.specs.Layout.{table_entry}
use Rattle.elf_make.proofs.writing.push_table.Given as goal

abbrev pub invariant-loop-header : goal.invariant-loop-header
invariant-loop-header l = l.file.items ≡ l.initial.file.items ++ flat_map table_entry (take l.header-index l.headers)
