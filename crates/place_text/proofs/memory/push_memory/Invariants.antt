use Rattle.std.proofs.Common.{◌≡◌, ◌++◌}
use Rattle.std.specs.List.{flat_map, range_with_len}
use Rattle.place_text.specs.Memory.{word_start, word_text}
use Rattle.place_text.specs.Seen.{past_of}
use Rattle.place_text.proofs.memory.push_memory.Given as goal

-- the lines of the numbers so far
abbrev pub invariant-loop-index : goal.invariant-loop-index
invariant-loop-index l =
    l.text.items ≡ l.initial.text.items
    ++ flat_map (λ k. word_text l.machine.setting (past_of l.machine) (word_start l.at k)) (range_with_len 0 l.index)
