use Rattle.frame_pool.proofs.Held.{AreHeld-apart}
use Rattle.frame_pool.proofs.theorems.held_frames_are_apart.Goals as goal

pub returns : goal.returns
returns c = AreHeld-apart
