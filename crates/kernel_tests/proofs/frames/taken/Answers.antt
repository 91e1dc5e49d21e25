use Rattle.std.proofs.Common.{None}
use Rattle.frame_pool.proofs.Laws.{IsTaken-here}
use Rattle.kernel_tests.proofs.TakenFrames.{IsTaken-written}
use Rattle.frame_pool.specs.Pool.{fresh}
use Rattle.kernel_tests.proofs.frames.taken.Goals as goal

pub returns-clause-held : goal.returns-clause-held
returns-clause-held g c =
    let taken = rw c.expect.ensures at c.take.ensures.taken in
    let was_free = rw c.expect.ensures at c.take.ensures.was_free in
    rw taken (IsTaken-here c.args.pool.now c.expect.result None fresh was_free)

pub returns-clause-kept : goal.returns-clause-kept
returns-clause-kept g c = λ n held.
    let taken = rw c.expect.ensures at c.take.ensures.taken in
    rw taken (IsTaken-written c.args.pool.now c.expect.result n fresh held)
