use Rattle.std.proofs.Common.{◌≡◌, ◌∙◌, sym, ap}
use Rattle.log_gather.specs.Accesses.{entered_by}
use Rattle.log_gather.specs.Passing.{here_on}
use Rattle.log_gather.proofs.EventAccesses.{access_exec}
use Rattle.log_gather.proofs.passing.access_of_next.Goals as goal

pub returns-clause-access : goal.returns-clause-access
returns-clause-access c =
    let e = c.in_ok-effect.effect in
    let reserved : c.hart.result.now.reserved ≡ (here_on c.args.machine.now c.args.hart.0).reserved = λ i. (c.hart.ensures i).reserved in
    access_exec (here_on c.args.machine.now c.args.hart.0) e c.access_of.result (sym c.plain_effect.ensures ∙ c.in_ok-effect.was) c.access_of.ensures.reads
    c.access_of.ensures.writes (c.access_of.ensures.entered ∙ ap (λ r. entered_by r e) reserved) c.access_of.ensures.reserves
