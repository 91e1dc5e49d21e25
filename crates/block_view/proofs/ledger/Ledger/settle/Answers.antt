use Rattle.std.proofs.Common.{sym, ◌∙◌, ap}
use Rattle.block_model.specs.declared.acts.SeqEnd.{SeqEnd}
use Rattle.block_view.specs.Ledgers.{ended_at, kept_in, with_end_at, without_hanging}
use Rattle.block_view.proofs.Noting.{no_act_else, no_act_settled, settled_act_at, settled_at}
use Rattle.block_view.proofs.ledger.Ledger.settle.Goals as goal

pub returns-then-not-runs-clause-act : goal.returns-then-not-runs-clause-act
returns-then-not-runs-clause-act c = no_act_else c.args.passed.now (kept_in c.args.self.now) (sym c.runs.ensures ∙ c.if-not-runs.true)

pub returns-in_default-clause-act : goal.returns-in_default-clause-act
returns-in_default-clause-act c =
    no_act_settled c.args.passed.now (kept_in c.args.self.now) (sym c.runs.ensures ∙ c.if-not-runs.false) (sym c.place_of_hanging.ensures ∙ c.in_default.is)

pub returns-clause-settled : goal.returns-clause-settled
returns-clause-settled c =
    let k = kept_in c.args.self.now in
    let p = c.args.passed.now in
    c.forget.ensures
    ∙ ap (without_hanging p.entry.tid) c.end_at-ended.ensures.kept
    ∙ ap (λ (end : SeqEnd). without_hanging p.entry.tid (with_end_at c.in-Some.place end k)) c.verdict.ensures
    ∙ settled_at p k c.in-Some.place (sym c.runs.ensures ∙ c.if-not-runs.false) (sym c.place_of_hanging.ensures ∙ c.in-Some.is)

pub returns-clause-act : goal.returns-clause-act
returns-clause-act c =
    let k = kept_in c.args.self.now in
    let p = c.args.passed.now in
    c.end_at-ended.ensures.act
    ∙ ap (λ (end : SeqEnd). ended_at c.in-Some.place end k) c.verdict.ensures
    ∙ settled_act_at p k c.in-Some.place (sym c.runs.ensures ∙ c.if-not-runs.false) (sym c.place_of_hanging.ensures ∙ c.in-Some.is)
