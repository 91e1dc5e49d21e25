use Rattle.block_view.specs.Ledgers.{kept_in}
use Rattle.block_view.proofs.Noting.{going_here}
use Rattle.block_view.proofs.ledger.Ledger.close.Goals as goal

pub end_at-requires : goal.end_at-requires
end_at-requires c =
    let k = kept_in c.args.self.now in
    c.requires.places.going c.args.hart.0 c.in-Some.going
    (going_here k c.args.hart.0 c.from.result _ _ c.in-Some.is c.from.ensures c.requires.hart c.index.ensures)
