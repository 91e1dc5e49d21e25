use Rattle.std.proofs.Common.{arith}
use Rattle.outside.proofs.Fetching.{fetching-more}
use Rattle.outside.proofs.moves.fetch.Goals as goal

pub loop-bytes-preserved : goal.loop-bytes-preserved
loop-bytes-preserved g c =
    let more = c.in_ok-move_piece.ensures in (
      c.loop-bytes.invariant.0,
      fetching-more _ _ _ _ _ _ _ _ _ _ _ _ _ _ _ _ _ c.loop-bytes.invariant.1 more.appended (omega arith) more.moved more.still_started more.name more.files more.counts,
    )
