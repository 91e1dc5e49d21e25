use Rattle.std.proofs.Common.{◌≡◌, drop, is_none}
use Rattle.std.specs.List.{list_all}
use Rattle.block_view.proofs.ledger.Ledger.none_goes_on.Given as goal

-- none of those before does
abbrev pub invariant-loop-going : goal.invariant-loop-going
invariant-loop-going l = list_all is_none l.self.going.items ≡ list_all is_none (drop l.going-index l.self.going.items)
