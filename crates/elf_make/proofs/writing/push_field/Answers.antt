use Rattle.elf_make.proofs.Pushing.{pushed_field}
use Rattle.elf_make.proofs.writing.push_field.Goals as goal

pub returns : goal.returns
returns c = pushed_field _ _ _ _ _ _ _ _ c.requires c.write_word-fits.ensures.fits.1 c.write_word-fits.ensures.written c.extend_from_slice.ensures.items
