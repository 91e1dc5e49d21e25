-- A call that the process makes as where it is alone.
use Rattle.shared_procs.proofs.Common.{not, done_of, half, here_two, setting, stand, Exec}
use Rattle.shared_procs.proofs.EventFacts.{does_so}
use Rattle.shared_procs.proofs.PairCalls.{call_planned, own_begins_none, own_hidden}
use Rattle.shared_procs.proofs.PairEvents.{unshared}
use Rattle.shared_procs.proofs.pair_calls.own_call.Goals as goal

pub call-requires : goal.call-requires
call-requires c =
    let has = c.requires.step in
    let v = stand has.setting has.pair has.process in
    record {
      stand = v;
      place = has.step.place;
      plan = call_planned has.setting has.pair has.process c.args.hart c.args.mine.now c.args.other.now has.step
          (c.requires.own v has.step.thread has.step.place has.step.at);
    }

pub returns : goal.returns
returns c s m p step =
    let h = c.args.hart.0 in
    let mine = c.args.mine.now in
    let v = stand s m p in
    let own = c.requires.own v step.thread step.place step.at in
    unshared s m p h (done_of Exec (here_two s m p h)) mine c.call.new.self c.unseen.new.other
    (c.call.ensures v step.place (call_planned s m p c.args.hart mine c.args.other.now step own))
    (own_hidden s m p c.args.hart mine c.args.other.now step c.keeps.ensures.gap)
    (c.unseen.ensures (setting s (not p)) (half (not p) m) (done_of Exec (here_two s m p h)) step.beside
    (does_so (here_two s m p h) Exec).took_is (own_begins_none s m p c.args.hart mine c.args.other.now step own))
