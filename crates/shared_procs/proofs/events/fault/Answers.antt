-- A fault is seen by nobody but its thread.
use Rattle.shared_procs.proofs.Common.{List, not, sym, ap, done_of, filter, half, here_two, is_shared, setting, stand, Write, Exec}
use Rattle.shared_procs.proofs.PairEvents.{unshared}
use Rattle.shared_procs.proofs.PairInstructions.{fault_planned, fault_quiet}
use Rattle.shared_procs.proofs.events.fault.Goals as goal

pub fault-requires : goal.fault-requires
fault-requires c =
    let has = c.requires in
    record {
      stand = stand has.setting has.pair has.process;
      place = has.step.place;
      plan = fault_planned has.setting has.pair has.process c.args.hart.0 c.args.effect c.args.signal c.args.mine.now c.args.other.now has.step;
    }

pub returns : goal.returns
returns c s m p step =
    let h = c.args.hart.0 in
    let effect = c.args.effect in
    let quiet = fault_quiet (here_two s m p h) step.thread c.args.signal step.at (sym step.fault) in
    unshared s m p h (done_of Exec (here_two s m p h)) c.args.mine.now c.fault.new.self c.unseen.new.other
    (c.fault.ensures (stand s m p) step.place (fault_planned s m p h effect c.args.signal c.args.mine.now c.args.other.now step))
    (ap (λ (ws : List Write). filter is_shared ws) quiet.none_written)
    (c.unseen.ensures (setting s (not p)) (half (not p) m) (done_of Exec (here_two s m p h)) step.beside quiet.untaken quiet.none_begun)
