-- so far the threads with numbers up to this one that are ready and may
use Rattle.std.proofs.Common.{◌≡◌, ◌+◌}
use Rattle.drawings.specs.Scenes.{passing}
use Rattle.drawn_machine.proofs.Starting.{starts}
use Rattle.drawn_machine.proofs.starting_threads.startable_threads.Given as goal

abbrev pub invariant-loop-earlier : goal.invariant-loop-earlier
invariant-loop-earlier l = l.startable.items ≡ passing (starts l.threads.threads l.ready l.opened l.hart.0) (l.earlier + 1)
