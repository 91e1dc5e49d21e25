use Rattle.std.proofs.Common.{sym, ◌∙◌, arith}
use Rattle.elf_load.specs.declared.program_headers.ProgramHeader.{ProgramHeader}
use Rattle.elf_make.specs.Refusals.{is_bad_segment}
use Rattle.elf_make.proofs.Indexes.{indexed-at, indexed-more, indexed-none}
use Rattle.elf_make.proofs.refusals.first_bad_segment.Goals as goal

pub returns-then-is_bad_segment : goal.returns-then-is_bad_segment
returns-then-is_bad_segment c =
    let none : ProgramHeader = record { kind = 0; flags = 0; offset = 0; vaddr = 0; filesz = 0; memsz = 0 } in
    sym (indexed-at (is_bad_segment c.args.segments.now) c.args.segments.now c.loop-k.k none c.loop-k-test.true (sym c.is_bad_segment.ensures ∙ c.if-is_bad_segment.true) (λ j h. c.loop-k.invariant j none h))

pub returns : goal.returns
returns c =
    let none : ProgramHeader = record { kind = 0; flags = 0; offset = 0; vaddr = 0; filesz = 0; memsz = 0 } in
    sym (indexed-none (is_bad_segment c.args.segments.now) c.args.segments.now none (λ k h. c.loop-k.invariant k none (omega arith)))

pub loop-k-preserved : goal.loop-k-preserved
loop-k-preserved c =
    let none : ProgramHeader = record { kind = 0; flags = 0; offset = 0; vaddr = 0; filesz = 0; memsz = 0 } in
    indexed-more (is_bad_segment c.args.segments.now) c.args.segments.now c.loop-k.k none c.loop-k-test.true c.loop-k.invariant (sym c.is_bad_segment.ensures ∙ c.if-is_bad_segment.false)
