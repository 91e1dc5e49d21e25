use Rattle.std.proofs.Common.{◌∙◌, sym, ap, ℕ, ◌*◌, arith}
use Rattle.elf_load.specs.declared.program_headers.ProgramHeader.{ProgramHeader}
use Rattle.elf_load.proofs.Tables.{table_address-at, table_address-none}
use Rattle.elf_load.proofs.loading.table_address.Goals as goal

pub returns-then-holds : goal.returns-then-holds
returns-then-holds c =
    let none : ProgramHeader = record { kind = 0; flags = 0; offset = 0; vaddr = 0; filesz = 0; memsz = 0 } in
    table_address-at c.args.file.now c.args.headers.now c.loop-header.header-index none c.xword-offset.result (56 * c.from.result) c.requires.table c.xword-offset.ensures (ap (λ (n : ℕ). 56 * n) (c.from.ensures ∙ c.half.ensures)) c.loop-header-test.true (sym c.holds.ensures ∙ c.if-holds.true) (λ k h. c.loop-header.invariant k none h)

pub returns : goal.returns
returns c =
    let none : ProgramHeader = record { kind = 0; flags = 0; offset = 0; vaddr = 0; filesz = 0; memsz = 0 } in
    table_address-none c.args.file.now c.args.headers.now none c.xword-offset.result (56 * c.from.result) c.requires.table c.xword-offset.ensures (ap (λ (n : ℕ). 56 * n) (c.from.ensures ∙ c.half.ensures)) (λ k h. c.loop-header.invariant k none (omega arith))
