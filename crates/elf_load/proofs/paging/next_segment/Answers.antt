use Rattle.std.proofs.Common.{◌∙◌, sym, refl, get_or, arith}
use Rattle.elf_load.specs.declared.program_headers.ProgramHeader.{ProgramHeader}
use Rattle.elf_load.proofs.Choosing.{chosen-none, chosen-taken, chosen-kept, chosen-next, chosen-last}
use Rattle.elf_load.proofs.paging.next_segment.Goals as goal
use Rattle.elf_load.proofs.paging.next_segment.Goals.{then-has_pages+then-from-first_page+then-is_before, else-has_pages, else-has_pages-via-then-has_pages+then-from-first_page+else-is_before, else-has_pages-via-then-has_pages+else-from-first_page, else-has_pages-via-else-has_pages}

pub loop-header-init : goal.loop-header-init
loop-header-init c = chosen-none _ _

pub loop-header-preserved : goal.loop-header-preserved
loop-header-preserved c =
    let none : ProgramHeader = record { kind = 0; flags = 0; offset = 0; vaddr = 0; filesz = 0; memsz = 0 } in
    let here : ProgramHeader = get_or c.args.headers.now c.loop-header.header-index none in
    elim c.if-has_pages.branch [
      | then-has_pages+then-from-first_page+then-is_before w ↦
          rw w.next-is (chosen-taken _ _ _ _ here none c.loop-header.invariant c.loop-header-test.true refl (sym c.has_pages.ensures ∙ w.if-has_pages.true) (omega (arith, w.first_page.ensures, w.if-from-first_page.true)) (w.is_before.ensures.0 w.if-is_before.true))
      | else-has_pages w ↦ rw w.next-is (elim w.else-has_pages.branch [
        | else-has_pages-via-then-has_pages+then-from-first_page+else-is_before v ↦ chosen-kept _ _ _ _ here none c.loop-header.invariant c.loop-header-test.true refl (λ pages later sooner. cc (v.is_before.ensures.1 sooner, v.if-is_before.false))
        | else-has_pages-via-then-has_pages+else-from-first_page v ↦ chosen-kept _ _ _ _ here none c.loop-header.invariant c.loop-header-test.true refl (λ pages later sooner. omega (arith, v.first_page.ensures, v.if-from-first_page.false))
        | else-has_pages-via-else-has_pages v ↦ chosen-kept _ _ _ _ here none c.loop-header.invariant c.loop-header-test.true refl (λ pages later sooner. cc (pages, c.has_pages.ensures, v.if-has_pages.false))
      ])
    ]

pub returns-clause-next : goal.returns-clause-next
returns-clause-next c = chosen-next _ _ _ _ c.loop-header.invariant c.loop-header-test.false

pub returns-clause-last : goal.returns-clause-last
returns-clause-last c = chosen-last _ _ _ _ c.loop-header.invariant c.loop-header-test.false
