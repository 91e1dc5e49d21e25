-- rseq(2) is refused.
use Rattle.shared_procs.proofs.Common.{not, ap, Done, done_of, ENOSYS, filter, half, here_two, is_shared, refused, setting, stand, Exec}
use Rattle.shared_procs.proofs.PairCalls.{rseq_called}
use Rattle.shared_procs.proofs.PairEvents.{unshared}
use Rattle.shared_procs.proofs.pair_calls.refuse_rseq.Goals as goal

pub finish_call-requires : goal.finish_call-requires
finish_call-requires c =
    let has = c.requires.step in
    record {
      stand = stand has.setting has.pair has.process;
      before = c.args.mine.now;
      done = refused (here_two has.setting has.pair has.process c.args.hart.0) has.step.thread ENOSYS;
      called =
          rseq_called has.setting has.pair has.process c.args.hart c.args.mine.now c.args.other.now has.step c.requires.number c.saved_of-saved.result
          c.go_on-end.new.saved c.go_on-end.result
          (c.saved_of-saved.ensures (stand has.setting has.pair has.process) has.step.thread has.step.place has.step.at) c.go_on-end.ensures.saved
          c.go_on-end.ensures.stays c.go_on-end.ensures.runs_on c.go_on-end.ensures.waits_in_none c.go_on-end.ensures.ends c.go_on-end.ensures.answer;
    }

pub returns : goal.returns
returns c s m p step =
    let h = c.args.hart.0 in
    let d = done_of Exec (here_two s m p h) in
    let called =
    rseq_called s m p c.args.hart c.args.mine.now c.args.other.now step c.requires.number c.saved_of-saved.result c.go_on-end.new.saved c.go_on-end.result
    (c.saved_of-saved.ensures (stand s m p) step.thread step.place step.at) c.go_on-end.ensures.saved c.go_on-end.ensures.stays
    c.go_on-end.ensures.runs_on c.go_on-end.ensures.waits_in_none c.go_on-end.ensures.ends c.go_on-end.ensures.answer in
    unshared s m p h d c.args.mine.now c.finish_call.new.self c.unseen.new.other
    (c.finish_call.ensures (stand s m p) c.args.mine.now (refused (here_two s m p h) step.thread ENOSYS) called)
    (ap (λ (e : Done). filter is_shared e.entered) called.done)
    (c.unseen.ensures (setting s (not p)) (half (not p) m) d step.beside (ap (λ (e : Done). e.took) called.done) (ap (λ (e : Done). e.barrier) called.done))
