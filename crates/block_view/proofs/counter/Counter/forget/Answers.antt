use Rattle.std.proofs.Common.{List, ap, rules}
use Rattle.std.proofs.lemmas.Fn.{filter_same}
use Rattle.block_view.specs.Counters.{kept_counts}
use Rattle.block_view.specs.declared.counter.Hung.{Hung}
use Rattle.block_view.proofs.counter.Counter.forget.Goals as goal

pub returns : goal.returns
returns c =
    ap (λ (xs : List Hung). record (kept_counts c.args.self.now) { hanging = xs })
    (filter_same _ _ _ (λ x b f' called. search rules) _ _ c.retain.ensures.filtered)
