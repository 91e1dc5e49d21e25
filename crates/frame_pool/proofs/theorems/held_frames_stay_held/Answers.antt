use Rattle.frame_pool.proofs.Held.{AreHeld-last, AreHeld-middle, AreHeld-push, AreHeld-write}
use Rattle.frame_pool.proofs.theorems.held_frames_stay_held.Goals as goal

pub returns-clause-more : goal.returns-clause-more
returns-clause-more c = AreHeld-push

pub returns-clause-written : goal.returns-clause-written
returns-clause-written c = AreHeld-write

pub returns-clause-fewer : goal.returns-clause-fewer
returns-clause-fewer c = λ pool rest n held. (AreHeld-last pool rest n held).1

pub returns-clause-without : goal.returns-clause-without
returns-clause-without c = λ pool before after n held. (AreHeld-middle pool before after n held).1
