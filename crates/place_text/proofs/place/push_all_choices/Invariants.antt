use Rattle.std.proofs.Common.{◌≡◌, ◌++◌, map}
use Rattle.std.specs.List.{flat_map, range_with_len}
use Rattle.place_text.specs.Choices.{choices_text}
use Rattle.place_text.specs.Live.{run_of}
use Rattle.place_text.specs.Seen.{past_of}
use Rattle.place_text.proofs.place.push_all_choices.Given as goal

-- the lines of the choices of the harts so far
abbrev pub invariant-loop-number : goal.invariant-loop-number
invariant-loop-number l =
    l.text.items ≡ l.initial.text.items
    ++ flat_map (choices_text l.machine.setting (past_of l.machine) (map run_of l.live)) (range_with_len 0 l.number)
