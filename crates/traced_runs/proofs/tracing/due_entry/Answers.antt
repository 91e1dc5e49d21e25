use Rattle.std.proofs.Common.{sym, ◌∙◌}
use Rattle.traced_runs.proofs.ToldLogs.{is_decided}
use Rattle.traced_runs.proofs.tracing.due_entry.Goals as goal

pub returns-then-is_as_said-clause-decided : goal.returns-then-is_as_said-clause-decided
returns-then-is_as_said-clause-decided c =
    is_decided c.args.machine.now c.args.line.now.hart.0 c.args.line.now.choice c.in-Ok.entry (sym c.answer.ensures ∙ c.in-Ok.is)
