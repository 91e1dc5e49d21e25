use Rattle.traced_runs.proofs.ToldLogs.{is_made, its_place}
use Rattle.traced_runs.proofs.tracing.make_due.Goals as goal

pub seen_ahead-ahead-requires : goal.seen_ahead-ahead-requires
seen_ahead-ahead-requires c = its_place c.args.machine.now c.in-Ok.entry c.requires.run c.in-Ok.ensures.decided

pub returns-in_ok-trace-in-Ok-clause-made : goal.returns-in_ok-trace-in-Ok-clause-made
returns-in_ok-trace-in-Ok-clause-made c =
    let told = c.in_ok-trace-in-Ok.ensures in
    record {
      by_line = c.in-Ok.ensures.made;
      made = is_made c.args.machine.now c.trace.new.machine c.in-Ok.entry c.in-Ok.ensures.decided told.machine told.run;
      lines = told.lines;
      ahead = c.seen_ahead-ahead.ensures;
      told = told.facts;
    }
