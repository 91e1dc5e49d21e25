use Rattle.std.proofs.Common.{◌++◌, ap, sym, arith}
use Rattle.block_view.specs.Ledgers.{kept_in, open_from}
use Rattle.block_view.proofs.OpenActs.{all_open, one_more_open}
use Rattle.block_view.proofs.ledger.Ledger.open_acts.Goals as goal

pub loop-place-init : goal.loop-place-init
loop-place-init c = ap (λ xs. xs ++ open_from (kept_in c.args.self.now) 0 c.args.self.now.list.items) (sym c.new-acts.ensures.items)

pub loop-place-preserved : goal.loop-place-preserved
loop-place-preserved c =
    let k = kept_in c.args.self.now in
    one_more_open k k.acts c.loop-place.acts.items c.tell_if_open.new.acts.items c.loop-place.place c.index.result.now c.index.ensures (omega arith)
    c.in_ok-tell_if_open.ensures c.loop-place.invariant

pub returns : goal.returns
returns c =
    let k = kept_in c.args.self.now in
    all_open k k.acts c.loop-place.acts.items c.loop-place.place (omega arith) c.loop-place.invariant
