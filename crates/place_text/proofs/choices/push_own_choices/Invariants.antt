use Rattle.std.proofs.Common.{◌≡◌, ◌++◌, take}
use Rattle.place_text.specs.Choices.{choice_lines}
use Rattle.place_text.specs.Seen.{past_of}
use Rattle.place_text.proofs.choices.push_own_choices.Given as goal

-- the lines of the choices so far
abbrev pub invariant-loop-choice : goal.invariant-loop-choice
invariant-loop-choice l =
    l.text.items ≡ l.initial.text.items ++ choice_lines l.machine.setting (past_of l.machine) l.hart.0 (take l.choice-index l.choice-items)
