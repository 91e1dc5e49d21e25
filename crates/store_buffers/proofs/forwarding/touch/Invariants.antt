use Rattle.std.proofs.Common.{◌≡◌, false, take}
use Rattle.std.specs.List.{list_any}
use Rattle.store_buffers.specs.Pages.{is_among}
use Rattle.store_buffers.proofs.forwarding.touch.Given as goal

abbrev pub invariant-loop-store : goal.invariant-loop-store
invariant-loop-store l = list_any (is_among l.first l.count) (take l.store-index l.stores) ≡ false
