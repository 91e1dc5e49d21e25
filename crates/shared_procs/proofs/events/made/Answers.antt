use Rattle.shared_procs.proofs.Common.{refl, done_of, here_two}
use Rattle.shared_procs.proofs.PairEvents.{made_unshared}
use Rattle.shared_procs.proofs.events.made.Goals as goal

pub returns-in_default : goal.returns-in_default
returns-in_default c s m p acting tied free =
    made_unshared s m p c.args.hart.0 (done_of c.args.choice (here_two s m p c.args.hart.0)) c.args.mine.now c.args.other.now _ _ c.args.segment.now
    (c.pass.ensures s m p acting.place tied free) acting.holds refl refl
