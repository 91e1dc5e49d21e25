use Rattle.kernel_tests.proofs.TakenFrames.{IsTaken-written}
use Rattle.kernel_tests.proofs.frames.mark.Goals as goal

pub returns : goal.returns
returns c = λ n held. IsTaken-written c.args.pool.now c.args.frame.now n _ held
