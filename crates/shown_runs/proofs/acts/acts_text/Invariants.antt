use Rattle.std.proofs.Common.{◌≡◌, take}
use Rattle.std.specs.List.{flat_map}
use Rattle.run_texts.specs.Summary.{act_line}
use Rattle.shown_runs.proofs.acts.acts_text.Given as goal

abbrev pub invariant-loop-act : goal.invariant-loop-act
invariant-loop-act l = l.text.items ≡ flat_map act_line (take l.act-index l.acts.list.items)
