use Rattle.std.proofs.Common.{◌≡◌, ◌++◌, map, filter}
use Rattle.std.specs.Fmt.{decimal}
use Rattle.std.specs.List.{range_with_len}
use Rattle.mach_types.specs.Kernel.Scheduling.{has_hart}
use Rattle.place_text.specs.Fields.{behind}
use Rattle.place_text.proofs.fields.push_harts.Given as goal

-- those of the harts so far that are in the set
abbrev pub invariant-loop-hart : goal.invariant-loop-hart
invariant-loop-hart l = l.text.items ≡ l.initial.text.items ++ behind (map decimal (filter (has_hart l.set) (range_with_len 0 l.hart)))
