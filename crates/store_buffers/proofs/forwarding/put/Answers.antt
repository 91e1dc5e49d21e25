use Rattle.std.proofs.Common.{◌∙◌, arith}
use Rattle.store_buffers.proofs.Replaced.{put_inner, put_whole, whole_lt}
use Rattle.store_buffers.proofs.forwarding.put.Goals as goal

pub join-requires-clause-fits : goal.join-requires-clause-fits
join-requires-clause-fits c =
    put_inner c.args.word c.args.skipped c.args.count c.args.bits c.split-low.result.1 c.split-high.result.1 c.split-middle.result.0
    c.split-low.ensures.high c.split-high.ensures.high c.split-middle.ensures.low c.requires (omega arith)

pub join-requires-2-clause-fits : goal.join-requires-2-clause-fits
join-requires-2-clause-fits c =
    let whole = put_whole c.args.word c.args.skipped c.args.count c.args.bits c.split-low.result.0 c.split-low.result.1 c.split-high.result.1
    c.split-middle.result.0 c.join.result c.split-low.ensures.low c.split-low.ensures.high c.split-high.ensures.high c.split-middle.ensures.low
    c.join.ensures in
    let fits = whole_lt c.args.word c.args.skipped c.args.count c.args.bits c.requires (omega arith) in
    omega arith

pub returns : goal.returns
returns c =
    c.join-2.ensures
    ∙ put_whole c.args.word c.args.skipped c.args.count c.args.bits c.split-low.result.0 c.split-low.result.1 c.split-high.result.1
    c.split-middle.result.0 c.join.result c.split-low.ensures.low c.split-low.ensures.high c.split-high.ensures.high c.split-middle.ensures.low
    c.join.ensures
