use Rattle.std.proofs.Common.{◌≡◌, ◌++◌}
use Rattle.std.specs.List.{flat_map, range_with_len}
use Rattle.place_text.specs.Memory.{seen_text}
use Rattle.place_text.specs.Seen.{here_of}
use Rattle.place_text.proofs.memory.push_number.Given as goal

-- the lines of the harts so far
abbrev pub invariant-loop-number : goal.invariant-loop-number
invariant-loop-number l =
    l.text.items ≡ l.initial.text.items ++ flat_map (λ h. seen_text (here_of l.machine h) l.at) (range_with_len 0 l.number)
