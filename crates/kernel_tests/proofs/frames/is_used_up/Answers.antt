use Rattle.std.proofs.Common.{None, Some, slice_set, ap, ◌∙◌}
use Rattle.std.proofs.lemmas.List.{set-set}
use Rattle.frame_pool.proofs.Laws.{IsTaken-here}
use Rattle.kernel_tests.proofs.TakenFrames.{slice_set-same}
use Rattle.frame_pool.specs.Pool.{fresh}
use Rattle.kernel_tests.proofs.frames.is_used_up.Goals as goal

pub give-requires : goal.give-requires
give-requires c = rw c.in-Some.ensures.taken (IsTaken-here c.args.pool.now c.in-Some.frame None fresh c.in-Some.ensures.was_free)

pub returns-in-Some : goal.returns-in-Some
returns-in-Some c =
    c.give.ensures
    ∙ ap (λ pool. slice_set pool c.in-Some.frame None) c.in-Some.ensures.taken
    ∙ set-set c.args.pool.now c.in-Some.frame (Some fresh) None
    ∙ slice_set-same c.args.pool.now c.in-Some.frame None c.in-Some.ensures.was_free
