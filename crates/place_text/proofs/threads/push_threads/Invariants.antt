use Rattle.std.proofs.Common.{◌≡◌, ◌++◌, map, take}
use Rattle.sys_calls.specs.Registered.{areas_by_number}
use Rattle.place_text.specs.Live.{told}
use Rattle.place_text.specs.Threads.{told_text}
use Rattle.place_text.proofs.threads.push_threads.Given as goal

-- the lines of the threads so far
abbrev pub invariant-loop-thread : goal.invariant-loop-thread
invariant-loop-thread l =
    l.text.items ≡ l.initial.text.items
    ++ told_text l.kernel.signals (areas_by_number l.kernel.areas.items) (map told (take l.thread-index l.live))
