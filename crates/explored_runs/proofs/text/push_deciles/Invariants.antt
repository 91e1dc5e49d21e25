-- those so far
use Rattle.std.proofs.Common.{◌≡◌, ◌++◌, map, take}
use Rattle.place_text.specs.Fields.{behind}
use Rattle.explored_runs.specs.Deciles.{decile}
use Rattle.explored_runs.specs.Text.{wait_field}
use Rattle.explored_runs.specs.declared.deciles.TheConstants.{TENTHS}
use Rattle.explored_runs.proofs.text.push_deciles.Given as goal

abbrev pub invariant-loop-tenths : goal.invariant-loop-tenths
invariant-loop-tenths l = l.text.items
    ≡ l.initial.text.items ++ behind (map wait_field (map (decile l.waits) (take l.tenths-index TENTHS)))
