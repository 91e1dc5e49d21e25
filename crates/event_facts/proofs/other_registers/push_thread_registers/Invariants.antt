use Rattle.std.proofs.Common.{◌≡◌, ◌++◌}
use Rattle.std.specs.List.{flat_map, range_with_len}
use Rattle.event_facts.specs.OtherRegisters.{thread_register}
use Rattle.event_facts.proofs.other_registers.push_thread_registers.Given as goal

-- the registers so far
abbrev pub invariant-loop-number : goal.invariant-loop-number
invariant-loop-number l = l.facts.items ≡ l.initial.facts.items ++ flat_map (thread_register l.tid.0 l.before l.after) (range_with_len 0 l.number)
