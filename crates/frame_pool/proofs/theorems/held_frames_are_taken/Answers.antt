use Rattle.std.proofs.Common.{arith}
use Rattle.frame_pool.proofs.Counting.{free_count-add-taken_count}
use Rattle.frame_pool.proofs.Held.{AreHeld-at, length-AreHeld}
use Rattle.frame_pool.proofs.theorems.held_frames_are_taken.Goals as goal

pub returns-clause-each : goal.returns-clause-each
returns-clause-each c = AreHeld-at

pub returns-clause-counted : goal.returns-clause-counted
returns-clause-counted c = λ pool frames held. omega (arith, free_count-add-taken_count pool, length-AreHeld pool frames held)
