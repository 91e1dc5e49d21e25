use Rattle.std.proofs.Common.{◌∙◌}
use Rattle.event_facts.proofs.ThreadChanges.{all_changes}
use Rattle.event_facts.proofs.threads.push_threads.Goals as goal

pub returns : goal.returns
returns c = λ earlier is.
    all_changes earlier c.args.threads.now.threads c.deref.result.now c.args.before.now.given _ _ _ (c.deref.ensures.value ∙ is.states) is.given
    c.in_ok-push_changes.ensures c.in_ok-push_all_created.ensures
