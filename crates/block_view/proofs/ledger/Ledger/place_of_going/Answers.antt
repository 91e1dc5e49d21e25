use Rattle.std.proofs.Common.{sym, ap, None, arith}
use Rattle.std.specs.Option.{option_map}
use Rattle.std.proofs.lemmas.List.{get_or_past}
use Rattle.block_view.specs.Ledgers.{kept_in}
use Rattle.block_view.proofs.Noting.{going_here}
use Rattle.block_view.proofs.ledger.Ledger.place_of_going.Goals as goal

pub returns-then-index-len : goal.returns-then-index-len
returns-then-index-len c =
    let past = get_or_past (kept_in c.args.self.now).going c.args.hart.0 None (omega arith) in
    sym (ap (option_map (λ g. g.place)) past)

pub returns-in-Some : goal.returns-in-Some
returns-in-Some c =
    let k = kept_in c.args.self.now in
    sym (ap (option_map (λ g. g.place)) (going_here k c.args.hart.0 c.from-index.result _ _ c.in-Some.is c.from-index.ensures (omega arith) c.index.ensures))

pub returns-in-None : goal.returns-in-None
returns-in-None c =
    let k = kept_in c.args.self.now in
    sym (ap (option_map (λ g. g.place)) (going_here k c.args.hart.0 c.from-index.result _ _ c.in-None.is c.from-index.ensures (omega arith) c.index.ensures))
