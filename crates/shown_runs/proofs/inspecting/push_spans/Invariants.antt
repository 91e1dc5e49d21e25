use Rattle.std.proofs.Common.{◌≡◌, ◌++◌, take}
use Rattle.block_model.specs.Deciding.{history}
use Rattle.run_texts.specs.Places.{spans_text}
use Rattle.shown_runs.proofs.inspecting.push_spans.Given as goal

-- the lines of the spans so far
abbrev pub invariant-loop-span : goal.invariant-loop-span
invariant-loop-span l =
    l.text.items ≡ l.initial.text.items
    ++ spans_text l.machine.setting (history l.machine.setting l.machine.log) (take l.span-index l.spans)
