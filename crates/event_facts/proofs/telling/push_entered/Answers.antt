use Rattle.std.proofs.Common.{◌∙◌, ℕ, Option, ap, unwrap_or}
use Rattle.event_facts.specs.Telling.{here_on}
use Rattle.event_facts.proofs.Entered.{entered_told}
use Rattle.event_facts.proofs.telling.push_entered.Goals as goal

pub returns-in_ok-push : goal.returns-in_ok-push
returns-in_ok-push c =
    entered_told (here_on c.args.machine.now c.args.hart.0) c.args.deed.now c.in-Some.store _ _ _ _ _ c.in-Some.is
    (c.unwrap_or-old.ensures ∙ ap (λ (o : Option ℕ). unwrap_or o 0) (c.memory.ensures c.args.hart.0)) c.line_behind-line.ensures c.in_ok-push.ensures.items
