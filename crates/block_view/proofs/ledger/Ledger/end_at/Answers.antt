use Rattle.std.proofs.Common.{List, ap}
use Rattle.block_view.specs.Ledgers.{kept_in, with_end}
use Rattle.block_view.specs.declared.forms.Act.{Act}
use Rattle.block_view.proofs.Changes.{ended_there, set_changes}
use Rattle.block_view.proofs.ledger.Ledger.end_at.Goals as goal

pub returns-clause-kept : goal.returns-clause-kept
returns-clause-kept c =
    let was = kept_in c.args.self.now in
    ap (λ (acts : List Act). record was { acts = acts })
    (set_changes (with_end c.args.end) was.acts c.args.place c.index_mut.result.now c.index_mut.ensures.value c.requires)

pub returns-clause-act : goal.returns-clause-act
returns-clause-act c =
    let was = kept_in c.args.self.now in
    ended_there c.args.end was.acts c.args.place c.index_mut.result.now c.index.result.now c.index_mut.ensures.value c.requires c.index.ensures
