use Rattle.std.proofs.Common.{◌∙◌}
use Rattle.elf_make.proofs.Placing.{contents-more, contents-end, grown}
use Rattle.elf_make.proofs.writing.push_contents.Goals as goal

pub loop-part-preserved : goal.loop-part-preserved
loop-part-preserved c = contents-more _ _ _ _ _ c.part-item.result c.part-item.result c.loop-part-test.true c.part-item.is c.loop-part.invariant
    (grown _ _ _ _ c.part-item.result _ _ _ c.place_from-place.ensures (c.len.ensures ∙ c.loop-part.file.ok.0) c.loop-part.file.ok.0 c.in_ok-resize.ensures.items c.deref.ensures.value c.in_ok-extend_from_slice.ensures.items)

pub returns : goal.returns
returns c = contents-end _ _ _ _ c.loop-part-test.false c.loop-part.invariant
