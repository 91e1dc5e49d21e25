-- those so far and those of what is left are all
use Rattle.std.proofs.Common.{◌≡◌, ◌++◌, drop}
use Rattle.place_text.specs.Fields.{behind}
use Rattle.explored_runs.specs.Text.{harts_fields}
use Rattle.explored_runs.proofs.text.push_harts_fields.Given as goal

abbrev pub invariant-loop-number : goal.invariant-loop-number
invariant-loop-number l = l.text.items ++ behind (harts_fields l.number (drop l.number l.harts)) ≡ l.initial.text.items ++ behind (harts_fields 0 l.harts)
