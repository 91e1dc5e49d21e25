use Rattle.std.proofs.lemmas.Result.{IfOk-weaker}
use Rattle.block_view.specs.Ledgers.{kept_in}
use Rattle.block_view.proofs.FollowedLogs.{follows_none}
use Rattle.block_view.proofs.ledger.Ledger.new.Goals as goal

pub returns : goal.returns
returns c m same none = IfOk-weaker c.empty.result _ _ (λ ledger is. follows_none m c.args.harts (kept_in ledger) same none is) c.empty.ensures
