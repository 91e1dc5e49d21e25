use Rattle.std.proofs.Common.{◌≡◌, ◌++◌}
use Rattle.percpu_lib.specs.Rings.{get_test, get_words}
use Rattle.percpu_lib.proofs.rings.steps_of_get.Given as goal

abbrev pub invariant-loop-k : goal.invariant-loop-k
invariant-loop-k l = l.lines.items ≡ get_test l.slots l.base l.count ++ get_words l.slots l.k
