use Rattle.traced_runs.proofs.ToldLogs.{ahead_of_it}
use Rattle.traced_runs.proofs.tracing.make_freely.Goals as goal

pub returns-in-Some-clause-made : goal.returns-in-Some-clause-made
returns-in-Some-clause-made c =
    let free = rw c.in-Some.is at c.in_ok-entry.ensures.told in
    record {
      choice = c.may_go.ensures.exec c.if-not-may_go.false;
      ahead = ahead_of_it c.args.machine.now c.args.line.now.hart.0 c.in-Some.entry c.ahead_of-ahead.result free.hart free.kind c.ahead_of-ahead.ensures;
      made = free;
    }
