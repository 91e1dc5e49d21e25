use Rattle.std.proofs.Common.{arith}
use Rattle.elf_load.proofs.Appending.{appends-none, appends-one, appends-all, first-le-last}
use Rattle.elf_load.proofs.paging.push_segment.Goals as goal

pub loop-number-init : goal.loop-number-init
loop-number-init c = appends-none _ _ _ _ (omega (arith, c.first_page-number.ensures))

pub loop-number-preserved : goal.loop-number-preserved
loop-number-preserved c = appends-one _ _ _ _ _ _ _ _ c.loop-number.invariant (omega (arith, c.first_page-number.ensures, c.loop-number.auto.number)) (omega (arith, c.first_page-number.ensures, c.loop-number.auto.number, c.page_of.ensures.number)) c.page_of.ensures.page c.in_ok-push.ensures.items

pub returns : goal.returns
returns c = appends-all _ _ _ _ _ c.requires.pages c.loop-number.invariant (omega (arith, c.first_page-number.ensures, c.last_page-number-end.ensures.page, c.loop-number.auto.number-end, c.loop-number-test.false, first-le-last c.args.header.now c.requires.pages))
