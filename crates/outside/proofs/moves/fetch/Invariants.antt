use Rattle.std.proofs.Common.{◌-◌, ◌+◌, vec_len, ◌≡◌}
use Rattle.outside.proofs.Fetching.{IsFetching}
use Rattle.outside.proofs.moves.fetch.Given as goal

abbrev pub invariant-loop-bytes : goal.invariant-loop-bytes
invariant-loop-bytes g l =
    (vec_len l.piece ≡ 65536)
    × IsFetching (g.S.Shelf.file l.fn.shelf) (g.S.Shelf.file l.shelf) (g.S.Shelf.is_started l.shelf) (g.S.Shelf.started_name l.shelf) (g.S.Shelf.left l.shelf) (g.S.Shelf.faults l.fn.shelf) (g.S.Shelf.faults l.shelf) l.name l.bytes.items l.limit

abbrev pub decreases-loop-bytes : goal.decreases-loop-bytes
decreases-loop-bytes g l = l.limit + 1 - vec_len l.bytes
