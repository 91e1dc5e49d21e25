use Rattle.std.proofs.Common.{arith}
use Rattle.rseq_area.proofs.LowestFree.{held_from_the_first, lowest_cid-is}
use Rattle.rseq_area.proofs.ids.lowest_cid.Goals as goal

pub returns-clause-id : goal.returns-clause-id
returns-clause-id c =
    let it = held_from_the_first c.args.held c.trailing_ones.result c.trailing_ones.ensures (omega arith) c.requires in
    lowest_cid-is c.args.held c.trailing_ones.result it.0 it.1 it.2

pub returns-clause-free : goal.returns-clause-free
returns-clause-free c = (held_from_the_first c.args.held c.trailing_ones.result c.trailing_ones.ensures (omega arith) c.requires).1

pub returns-clause-least : goal.returns-clause-least
returns-clause-least c = (held_from_the_first c.args.held c.trailing_ones.result c.trailing_ones.ensures (omega arith) c.requires).2
