use Rattle.std.proofs.Common.{◌∙◌, ◌++◌, Option, ap, arith}
use Rattle.std.specs.Option.{option_to_list}
use Rattle.fact_types.specs.declared.facts.Fact.{Fact}
use Rattle.event_facts.specs.Pending.{pending_fact}
use Rattle.event_facts.proofs.Lists.{all_numbers, range_step}
use Rattle.event_facts.proofs.pending.push_pending.Goals as goal

pub loop-lower-preserved : goal.loop-lower-preserved
loop-lower-preserved c =
    range_step (pending_fact c.args.delivered c.args.tid.0 c.args.before c.args.after) _ _ _ c.loop-lower.lower c.loop-lower.invariant
    (c.in_ok-push_if.ensures ∙ ap (λ (o : Option Fact). c.loop-lower.facts.items ++ option_to_list o) c.pending_change-change.ensures)

pub returns : goal.returns
returns c =
    all_numbers (pending_fact c.args.delivered c.args.tid.0 c.args.before c.args.after) _ _ c.loop-lower.lower 31 (omega arith) c.loop-lower.invariant
