use Rattle.std.proofs.Common.{◌≡◌, ◌++◌, ◌+◌}
use Rattle.std.specs.List.{flat_map, range_with_len}
use Rattle.block_model.specs.Deciding.{history}
use Rattle.block_model.specs.History.{kernel}
use Rattle.event_facts.specs.Threads.{state_behind}
use Rattle.trace_text.specs.Traces.{waiting_line}
use Rattle.traced_runs.proofs.tracing.push_all_waiting.Given as goal

-- the numbers so far
abbrev pub invariant-loop-earlier : goal.invariant-loop-earlier
invariant-loop-earlier l = let s = l.machine.setting in
    l.text.items ≡ l.initial.text.items
    ++ flat_map (λ k. waiting_line (k + 1) (state_behind (kernel s (history s l.machine.log)).threads k)) (range_with_len 0 l.earlier)
