use Rattle.elf_load.specs.declared.image.ImagePage.{ImagePage}
use Rattle.shared_procs.proofs.Common.{◌∙◌, List, ap, Program}
use Rattle.shared_procs.proofs.half.Half.boot.Goals as goal

pub returns-clause-program : goal.returns-clause-program
returns-clause-program c =
    let image = c.args.image.now in
    ap
    (λ (pages : List ImagePage).
    let p : Program = record { pages = pages; entry = image.entry; phdr = image.phdr; phnum = image.phnum; break_at = image.break_at } in p)
    (c.in_ok-code.ensures ∙ c.deref.ensures.value)
