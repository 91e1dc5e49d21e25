use Rattle.std.proofs.Common.{◌≡◌, ◌++◌, take}
use Rattle.std.specs.List.{flat_map}
use Rattle.place_text.specs.Harts.{store_line}
use Rattle.place_text.proofs.harts.push_stores.Given as goal

-- the lines of the stores so far
abbrev pub invariant-loop-index : goal.invariant-loop-index
invariant-loop-index l = l.text.items ≡ l.initial.text.items ++ flat_map (store_line l.hart.0) (take l.index l.buffer)
