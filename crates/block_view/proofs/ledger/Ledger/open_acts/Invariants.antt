use Rattle.std.proofs.Common.{◌≡◌, ◌++◌, drop}
use Rattle.block_view.specs.Ledgers.{kept_in, open_from}
use Rattle.block_view.proofs.ledger.Ledger.open_acts.Given as goal

-- those before are told
abbrev pub invariant-loop-place : goal.invariant-loop-place
invariant-loop-place l =
    open_from (kept_in l.self) 0 l.self.list.items ≡ l.acts.items ++ open_from (kept_in l.self) l.place (drop l.place l.self.list.items)
