-- those so far
use Rattle.std.proofs.Common.{◌≡◌, ◌++◌, take}
use Rattle.std.specs.List.{flat_map}
use Rattle.explored_runs.specs.Text.{found_text}
use Rattle.explored_runs.proofs.text.push_all_found.Given as goal

abbrev pub invariant-loop-found : goal.invariant-loop-found
invariant-loop-found l = l.text.items ≡ l.initial.text.items ++ flat_map (found_text l.apart) (take l.found-index l.all)
