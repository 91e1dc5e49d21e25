use Rattle.std.proofs.Common.{◌≡◌, ℕ, map}
use Rattle.std.specs.List.{range_with_len}
use Rattle.mach_types.specs.declared.threads.Saved.{Saved}
use Rattle.sys_calls.specs.Made.{AreSaved}
use Rattle.event_facts.specs.OtherRegisters.{waiting_behind}
use Rattle.event_facts.proofs.other_registers.all_waiting.Given as goal

-- the registers so far
abbrev pub invariant-loop-earlier : goal.invariant-loop-earlier
invariant-loop-earlier l =
    (file : ℕ → Saved) → AreSaved file l.threads → l.waiting.items ≡ map (waiting_behind file l.threads.threads) (range_with_len 0 l.earlier)
