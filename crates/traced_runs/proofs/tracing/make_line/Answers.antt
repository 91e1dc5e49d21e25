use Rattle.std.proofs.Common.{◌≡◌, List, IfErr, IfOk, Some, [], subst, sym, ◌∙◌}
use Rattle.mach_types.specs.Limits.{InRange}
use Rattle.block_model.specs.Setting.{Seen}
use Rattle.fact_types.specs.declared.facts.Fact.{Fact}
use Rattle.whole_runs.specs.Asks.{ask_of}
use Rattle.whole_runs.specs.BadLines.{line_fault}
use Rattle.traced_runs.specs.Tracing.{IsMadeLine}
use Rattle.traced_runs.proofs.ToldLogs.{free_differs, free_line}
use Rattle.traced_runs.proofs.tracing.make_line.Goals as goal

pub returns-then-is_as_said-clause-made : goal.returns-then-is_as_said-clause-made
returns-then-is_as_said-clause-made c =
    free_line c.args.machine.now c.make_freely.new.machine c.args.line.now _ c.make_freely.new.facts.items c.in-Some.made
    (rw c.in-Some.is at c.in_ok-made.ensures.made) c.args.lines.now c.clear.ensures.items c.requires.lines (sym c.is_as_said.ensures ∙ c.if-is_as_said.true)

pub returns-else-is_as_said-clause-refused : goal.returns-else-is_as_said-clause-refused
returns-else-is_as_said-clause-refused c =
    free_differs c.args.machine.now c.make_freely.new.machine c.args.line.now _ c.make_freely.new.facts.items c.in-Some.made
    (rw c.in-Some.is at c.in_ok-made.ensures.made) (sym c.is_as_said.ensures ∙ c.if-is_as_said.false)

pub make_due-requires-clause-limits : goal.make_due-requires-clause-limits
make_due-requires-clause-limits c =
    let same = rw c.in-None.is at c.in_ok-made.ensures.none in subst (λ (z : Seen). InRange z.setting.limits) (sym same) c.requires.limits

pub returns-in-None-clause-made : goal.returns-in-None-clause-made
returns-in-None-clause-made c =
    let same = rw c.in-None.is at c.in_ok-made.ensures.none in
    let empty = (rw c.in-None.is at c.in_ok-made.ensures.untold) ∙ c.clear.ensures.items in
    let line = c.args.line.now in
    let due = c.make_due.new in
    subst (λ (z : Seen). IfOk c.make_due.result (λ r. IfOk r (IsMadeLine z due.machine line [] due.facts.items due.lines))) same
    (subst (λ (l : List Fact). IfOk c.make_due.result (λ r. IfOk r (IsMadeLine c.make_freely.new.machine due.machine line l due.facts.items due.lines))) empty
    c.make_due.ensures.made)

pub returns-in-None-clause-refused : goal.returns-in-None-clause-refused
returns-in-None-clause-refused c =
    let same = rw c.in-None.is at c.in_ok-made.ensures.none in
    subst (λ (z : Seen). IfOk c.make_due.result (λ r. IfErr r (λ fault. line_fault z.setting z.log (Some (ask_of c.args.line.now)) ≡ Some fault))) same
    c.make_due.ensures.refused
