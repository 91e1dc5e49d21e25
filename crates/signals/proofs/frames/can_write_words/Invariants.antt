use Rattle.std.proofs.Common.{◌≡◌, ◌+◌, ◌-◌, ◌*◌}
use Rattle.signals.specs.Writing.{can_write_words}
use Rattle.signals.proofs.frames.can_write_words.Given as goal

-- the words before can be written
abbrev pub invariant-loop-index : goal.invariant-loop-index
invariant-loop-index g l =
    can_write_words (g.M.UserMem.can_write l.mem) l.at l.count ≡ can_write_words (g.M.UserMem.can_write l.mem) (l.at + 8 * l.index) (l.count - l.index)
