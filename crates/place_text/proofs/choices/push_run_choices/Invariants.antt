use Rattle.std.proofs.Common.{◌≡◌, ◌++◌, map, take}
use Rattle.place_text.specs.Choices.{choice_lines}
use Rattle.place_text.specs.Live.{run_of}
use Rattle.place_text.specs.Seen.{past_of}
use Rattle.place_text.proofs.choices.push_run_choices.Given as goal

-- the lines of the threads so far
abbrev pub invariant-loop-thread : goal.invariant-loop-thread
invariant-loop-thread l =
    l.text.items ≡ l.initial.text.items ++ choice_lines l.machine.setting (past_of l.machine) l.hart.0 (map run_of (take l.thread-index l.live))
