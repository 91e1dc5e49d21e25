use Rattle.std.proofs.Common.{sym, subst}
use Rattle.std.proofs.lemmas.Result.{on_ok_weaker}
use Rattle.block_view.specs.Counters.{IsCountOf, kept_counts}
use Rattle.block_view.proofs.CountedLogs.{can_follow, counted_next}
use Rattle.block_view.proofs.counter.Counter.follow.Goals as goal

pub note-requires : goal.note-requires
note-requires c =
    can_follow c.requires.earlier c.requires.now (kept_counts c.args.self.now) c.requires.entry c.args.passed.now c.requires.counted c.requires.made
    c.requires.limits

pub returns : goal.returns
returns c m m' entry counted again =
    on_ok_weaker c.note.result
    (λ is. subst (IsCountOf m') (sym is) (counted_next m m' (kept_counts c.args.self.now) entry c.args.passed.now counted again)) c.note.ensures
