use Rattle.std.proofs.Common.{◌≡◌, ◌++◌, ℕ}
use Rattle.std.specs.List.{flat_map, range_with_len}
use Rattle.mach_types.specs.declared.threads.Saved.{Saved}
use Rattle.sys_calls.specs.Made.{AreSaved}
use Rattle.event_facts.specs.OtherRegisters.{woken_from}
use Rattle.event_facts.proofs.other_registers.push_all_woken.Given as goal

-- the threads so far
abbrev pub invariant-loop-earlier : goal.invariant-loop-earlier
invariant-loop-earlier l =
    (file : ℕ → Saved) → AreSaved file l.threads
    → l.facts.items ≡ l.initial.facts.items ++ flat_map (woken_from l.waiting file l.threads.threads) (range_with_len 0 l.earlier)
