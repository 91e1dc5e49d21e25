use Rattle.std.proofs.Common.{List, ap, rules}
use Rattle.std.proofs.lemmas.Fn.{filter_same}
use Rattle.block_view.specs.Ledgers.{kept_in}
use Rattle.block_view.specs.declared.ledger.Hanging.{Hanging}
use Rattle.block_view.proofs.ledger.Ledger.forget.Goals as goal

pub returns : goal.returns
returns c =
    ap (λ (xs : List Hanging). record (kept_in c.args.self.now) { hanging = xs })
    (filter_same _ _ _ (λ x b f' called. search rules) _ _ c.retain.ensures.filtered)
