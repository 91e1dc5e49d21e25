use Rattle.std.proofs.Common.{◌∙◌, sym}
use Rattle.log_gather.proofs.MarkedEvents.{numbered_there}
use Rattle.log_gather.proofs.SameDetails.{reserved_same}
use Rattle.log_gather.proofs.marks.number_reserved.Goals as goal

pub returns-in-Some : goal.returns-in-Some
returns-in-Some c =
    let there = c.in-Some.ensures.lookup.3 in
    numbered_there c.args.list.now.items c.deref.result.now c.args.likely c.in-Some.kept.now c.args.reserved c.deref.ensures.value there.0 there.1
    (reserved_same c.in-Some.kept.now c.args.reserved (sym c.eq.ensures ∙ c.if-eq.true))
