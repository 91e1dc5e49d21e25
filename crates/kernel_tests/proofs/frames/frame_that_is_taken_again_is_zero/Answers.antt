use Rattle.kernel_tests.proofs.frames.frame_that_is_taken_again_is_zero.Goals as goal

pub give-requires : goal.give-requires
give-requires g c = c.mark.ensures c.taken-frame.result (rw c.is_used_up.ensures c.taken-frame.ensures.held)
