use Rattle.std.proofs.Common.{◌≡◌, ◌++◌, length, drop}
use Rattle.elf_make.specs.Layout.{contents_from}
use Rattle.elf_make.proofs.writing.push_contents.Given as goal

abbrev pub invariant-loop-part : goal.invariant-loop-part
invariant-loop-part l = l.file.items ++ contents_from (length l.file.items) (drop l.part-index l.parts) ≡ l.initial.file.items ++ contents_from (length l.initial.file.items) l.parts
