use Rattle.std.proofs.Common.{◌+◌, ◌-◌, ◌∙◌, Option, ap, arith}
use Rattle.mach_types.specs.declared.threads.ThreadState.{ThreadState}
use Rattle.event_facts.specs.Threads.{created_fact, created_facts}
use Rattle.event_facts.proofs.Lists.{all_numbers, piece, range_step}
use Rattle.event_facts.proofs.threads.push_all_created.Goals as goal

pub loop-further-preserved : goal.loop-further-preserved
loop-further-preserved c =
    range_step (created_fact c.args.given c.args.threads.now.threads) _ _ _ c.loop-further.further c.loop-further.invariant
    (piece _ _ _ _ c.in_ok-push_if.ensures
    (c.created.ensures ∙ ap (λ (o : Option ThreadState). created_facts (c.args.given + c.loop-further.further + 1) o) c.state.ensures))

pub returns : goal.returns
returns c =
    let ts = c.args.threads.now.threads in
    all_numbers (created_fact c.args.given ts) _ _ c.loop-further.further (ts.given - c.args.given) (omega arith) c.loop-further.invariant
