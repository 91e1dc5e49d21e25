use Rattle.std.proofs.Common.{◌≡◌, ◌++◌, ℕ}
use Rattle.std.specs.List.{flat_map, range_with_len}
use Rattle.mach_types.specs.declared.threads.Saved.{Saved}
use Rattle.sys_calls.specs.Made.{AreSaved}
use Rattle.event_facts.specs.OtherRegisters.{child_fact}
use Rattle.event_facts.proofs.other_registers.push_children.Given as goal

-- the threads so far
abbrev pub invariant-loop-further : goal.invariant-loop-further
invariant-loop-further l =
    (file : ℕ → Saved) → AreSaved file l.threads
    → l.facts.items ≡ l.initial.facts.items ++ flat_map (child_fact l.given l.parent file l.threads.threads) (range_with_len 0 l.further)
