use Rattle.log_gather.proofs.EventFacts.{facts_as}
use Rattle.log_gather.proofs.passing.Before.step.Goals as goal

pub returns-clause-facts : goal.returns-clause-facts
returns-clause-facts c =
    λ m m' e read again.
    let x = c.args.self.now in
    facts_as m m' e x c.args.passed.now read again c.args.was c.is_some.result c.is_within-within.result c.is_first-begins.result _ c.is_some.ensures
    c.is_within-within.ensures
    (λ i. record {
      entry = c.args.passed.now.entry;
      plain = x.plain;
      inside = c.is_some.result;
      within = c.is_within-within.result;
      begins = c.is_first-begins.ensures i;
      moves_out = c.moves_out.ensures i;
      access = x.access;
      looked_at = x.looked_at;
      reserved = x.reserved;
      awaits = c.is_first-begins.result;
    })
