use Rattle.std.proofs.Common.{◌≡◌, ◌++◌}
use Rattle.std.specs.List.{flat_map, range_with_len}
use Rattle.place_text.specs.Registers.{register_line}
use Rattle.place_text.proofs.registers.push_registers.Given as goal

-- the lines of the registers so far
abbrev pub invariant-loop-number : goal.invariant-loop-number
invariant-loop-number l = l.text.items ≡ l.initial.text.items ++ flat_map (register_line l.hart.0 l.file) (range_with_len 0 l.number)
