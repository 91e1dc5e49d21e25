use Rattle.std.proofs.Common.{ap, arith, is_some}
use Rattle.page_map.proofs.Tables.{found, found-none}
use Rattle.page_map.proofs.table.PageTable.next.Goals as goal

pub returns-then-is_some : goal.returns-then-is_some
returns-then-is_some c =
    found c.args.self.now c.args.from c.loop-page.page c.loop-page.invariant c.args.end c.loop-page-test.true
    (let place = ap is_some c.get.ensures in cc)

pub returns : goal.returns
returns c = found-none c.args.self.now c.args.from c.loop-page.page c.loop-page.invariant c.args.end (omega arith)
