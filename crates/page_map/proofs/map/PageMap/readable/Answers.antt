use Rattle.std.proofs.Common.{arith}
use Rattle.page_map.proofs.Readings.{readable_pages, readable_past}
use Rattle.page_map.proofs.map.PageMap.readable.Goals as goal

pub returns-in-Some : goal.returns-in-Some
returns-in-Some c =
    let sum = c.in-Some.ensures in
    readable_pages c.args.self.now c.args.at c.args.len c.in-Some.last c.are_readable.result (omega arith) sum.0 sum.1 c.are_readable.ensures.all c.are_readable.ensures.some

pub returns-in-None : goal.returns-in-None
returns-in-None c =
    let past = c.in-None.ensures in
    readable_past c.args.self.now c.args.at c.args.len (omega arith) (omega arith) (omega (arith, past))
