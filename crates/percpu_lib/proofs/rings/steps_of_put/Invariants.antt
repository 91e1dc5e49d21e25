use Rattle.std.proofs.Common.{◌≡◌, ◌++◌}
use Rattle.percpu_lib.specs.Rings.{put_test, put_words}
use Rattle.percpu_lib.proofs.rings.steps_of_put.Given as goal

abbrev pub invariant-loop-k : goal.invariant-loop-k
invariant-loop-k l = l.lines.items ≡ put_test l.slots l.base l.count ++ put_words l.slots l.k
