use Rattle.elf_load.proofs.Filling.{filled}
use Rattle.elf_load.proofs.paging.fill.Goals as goal

pub returns-then-from-to : goal.returns-then-from-to
returns-then-from-to c = λ j h. filled c.args.page.now c.args.file.now _ c.args.header.now c.args.start _ _ j h c.requires.size c.requires.zero c.requires.load c.requires.placed c.max-from.ensures c.min-to.ensures c.if-from-to.true c.copy_from_slice.ensures.after
