-- The thread leaves.
use Rattle.sys_calls.proofs.Common.{refl}
use Rattle.sys_calls.proofs.CallAnswers.{made_left}
use Rattle.sys_calls.proofs.affinity.sched_yield.Goals as goal

pub returns : goal.returns
returns c = record {
  made = λ h m hart told has file.
      let k = c.args.kernel.now in
      made_left h c.args.tid.0 c.args.here.0 k k c.leave.new.kernel m c.args.saved.now c.leave.new.saved c.leave.result h.kernel hart has refl told refl file refl c.requires
      c.leave.ensures.saved c.leave.ensures.threads c.leave.ensures.kept c.leave.ensures.ready c.leave.ensures.others c.leave.ensures.end c.leave.ensures.a0;
}
