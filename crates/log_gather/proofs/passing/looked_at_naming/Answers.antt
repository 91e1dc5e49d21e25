use Rattle.std.proofs.Common.{◌∙◌, Some, sym, ap}
use Rattle.log_gather.specs.Passing.{here_on}
use Rattle.log_gather.proofs.NamedLookups.{looks_where_good, signature_read}
use Rattle.log_gather.proofs.passing.looked_at_naming.Goals as goal

pub returns-in-Some : goal.returns-in-Some
returns-in-Some c =
    let here = here_on c.args.machine.now c.args.hart.0 in
    let area = c.in_ok-area.area in
    let q = c.in-Good.sequence in
    let p = c.in-Some.pointer in
    let signature = signature_read q.abort c.checked_sub.result c.checked_sub.ensures in
    ap (λ s. Some (record { area = area.at; descriptor = Some p; signature = s })) signature
    ∙ looks_where_good here area (sym c.area.ensures ∙ c.in_ok-area.was) p q (sym c.requires.named ∙ c.in-Good.is) c.in-Some.ensures
