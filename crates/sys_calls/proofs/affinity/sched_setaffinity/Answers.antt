-- A set that is refused, or is chosen.
use Rattle.sys_calls.proofs.Common.{sym, subst, sched_setaffinity, CallDone, IsMade}
use Rattle.sys_calls.proofs.CallAnswers.{made_refused}
use Rattle.sys_calls.proofs.affinity.sched_setaffinity.Goals as goal

pub returns-in-Ok : goal.returns-in-Ok
returns-in-Ok c = record {
  made = λ h hart count told has read.
      let t = c.args.tid.0 in
      let k = c.args.kernel.now in
      let m = c.args.pages.now in
      subst (λ (d : CallDone). IsMade h t k m c.restrict.new.kernel m c.restrict.new.saved c.restrict.result d) (sym (c.in-Ok.ensures.set h told read))
      (c.restrict.ensures.made h m hart count told has read.file);
}

pub returns-in-Err : goal.returns-in-Err
returns-in-Err c = record {
  made = λ h hart count told has read.
      let t = c.args.tid.0 in
      made_refused h t c.args.here.0 c.args.kernel.now c.args.pages.now c.args.saved.now c.go_on.new.saved c.in-Err.errno c.go_on.result (sched_setaffinity h t)
      hart told has read.file c.requires.caller (c.in-Err.ensures.refused h told read)
      c.go_on.ensures.saved c.go_on.ensures.stays c.go_on.ensures.runs_on c.go_on.ensures.waits_in_none c.go_on.ensures.ends c.go_on.ensures.answer;
}
