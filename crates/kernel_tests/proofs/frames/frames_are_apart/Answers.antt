use Rattle.std.proofs.Common.{sym}
use Rattle.kernel_tests.proofs.frames.frames_are_apart.Goals as goal

pub mark-requires : goal.mark-requires
mark-requires g c = rw c.is_used_up.ensures (c.taken-second.ensures.kept c.taken-first.result c.taken-first.ensures.held)

pub shows-requires-2 : goal.shows-requires-2
shows-requires-2 g c =
    c.mark-2.ensures c.taken-first.result
    (c.mark.ensures c.taken-first.result (rw c.is_used_up.ensures (c.taken-second.ensures.kept c.taken-first.result c.taken-first.ensures.held)))

pub give-requires : goal.give-requires
give-requires g c =
    c.mark-2.ensures c.taken-first.result
    (c.mark.ensures c.taken-first.result (rw c.is_used_up.ensures (c.taken-second.ensures.kept c.taken-first.result c.taken-first.ensures.held)))

pub shows-requires-3 : goal.shows-requires-3
shows-requires-3 g c =
    c.give.ensures c.taken-second.result (λ same. c.taken-second.ensures.apart c.taken-first.result c.taken-first.ensures.held (sym same))
    (c.mark-2.ensures c.taken-second.result (c.mark.ensures c.taken-second.result (rw c.is_used_up.ensures c.taken-second.ensures.held)))

pub give-requires-2 : goal.give-requires-2
give-requires-2 g c =
    c.give.ensures c.taken-second.result (λ same. c.taken-second.ensures.apart c.taken-first.result c.taken-first.ensures.held (sym same))
    (c.mark-2.ensures c.taken-second.result (c.mark.ensures c.taken-second.result (rw c.is_used_up.ensures c.taken-second.ensures.held)))
