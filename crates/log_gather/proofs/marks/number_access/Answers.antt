use Rattle.std.proofs.Common.{◌∙◌, sym}
use Rattle.log_gather.proofs.MarkedEvents.{numbered_there}
use Rattle.log_gather.proofs.SameDetails.{accesses_same}
use Rattle.log_gather.proofs.marks.number_access.Goals as goal

pub returns-in-Some : goal.returns-in-Some
returns-in-Some c =
    let there = c.in-Some.ensures.lookup.3 in
    numbered_there c.args.list.now.items c.deref.result.now c.args.likely c.in-Some.kept.now c.args.access c.deref.ensures.value there.0 there.1
    (accesses_same c.in-Some.kept.now c.args.access (sym c.eq.ensures ∙ c.if-eq.true))
