use Rattle.std.proofs.Common.{sym, ◌∙◌, arith}
use Rattle.elf_load.specs.declared.program_headers.ProgramHeader.{ProgramHeader}
use Rattle.elf_load.proofs.Positions.{first_overlap-at, first_overlap-none}
use Rattle.elf_load.proofs.checks.first_overlap.Goals as goal

pub returns-then-shares_page : goal.returns-then-shares_page
returns-then-shares_page c = sym (first_overlap-at c.args.headers.now c.loop-k.k _ c.loop-k-test.true (sym c.shares_page.ensures ∙ c.if-shares_page.true) (λ j h. c.loop-k.invariant j _ h))

pub returns : goal.returns
returns c =
    let none : ProgramHeader = record { kind = 0; flags = 0; offset = 0; vaddr = 0; filesz = 0; memsz = 0 } in
    sym (first_overlap-none c.args.headers.now none (λ k h. c.loop-k.invariant k none (omega arith)))
