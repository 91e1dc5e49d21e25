use Rattle.std.proofs.Common.{◌+◌, ◌≤◌, arith}
use Rattle.kernel_tests.proofs.RunningThreads.{idle_among}
use Rattle.kernel_tests.proofs.calls.bench.expect_idle.Goals as goal

pub returns : goal.returns
returns g c =
    let past : c.args.threads.now.threads.given + 1 ≤ c.loop-number.number = omega (arith, c.loop-number-test.false, c.numbers_given-given.ensures) in
    idle_among 2 c.args.hart.0 c.args.threads.now.threads c.requires.0 c.requires.1 (λ t lt at. c.loop-number.invariant t (omega (arith, lt, past)) at)
