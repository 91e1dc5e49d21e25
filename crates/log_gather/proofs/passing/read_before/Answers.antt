use Rattle.std.proofs.Common.{◌≡◌, ◌∙◌, ap, not, is_some}
use Rattle.std.specs.Option.{option_map}
use Rattle.block_model.specs.Here.{runs}
use Rattle.block_model.specs.Sights.{thread}
use Rattle.log_gather.specs.Passing.{here_on}
use Rattle.log_gather.proofs.EventFacts.{read_before}
use Rattle.log_gather.proofs.passing.read_before.Goals as goal

pub returns : goal.returns
returns c =
    let m = c.args.machine.now in
    let e = c.args.entry in
    let running : c.hart.result.now.running ≡ option_map thread (runs (here_on m e.hart.0)) = λ i. (c.hart.ensures i).running in
    read_before m e c.access_of_entry-access.result _ c.access_of_entry-access.ensures.access c.access_of_entry-access.ensures.plain c.is_some-plain.ensures
    c.unwrap_or.ensures c.looked_at_if.ensures c.named-named.ensures (c.is_idle.ensures ∙ ap (λ o. not (is_some o)) running) c.reservations.ensures.each
    c.reservations.ensures.eight
