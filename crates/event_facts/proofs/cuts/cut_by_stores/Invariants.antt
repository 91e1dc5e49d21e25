use Rattle.std.proofs.Common.{◌≡◌, false, take}
use Rattle.std.specs.List.{list_any}
use Rattle.event_facts.specs.Cuts.{cut_by_store}
use Rattle.event_facts.proofs.cuts.cut_by_stores.Given as goal

-- none so far
abbrev pub invariant-loop-numbered : goal.invariant-loop-numbered
invariant-loop-numbered l = list_any (cut_by_store l.at l.size) (take l.numbered-index l.waiting) ≡ false
