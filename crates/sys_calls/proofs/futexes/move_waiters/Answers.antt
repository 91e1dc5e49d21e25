-- Threads are woken or wait at another word, or that is refused.
use Rattle.sys_calls.proofs.Common.{◌≡◌, ◌∙◌, sym, subst, CallDone, IsMade, IsWoken, Woken, argument, futex_requeue, int_argument, requeue}
use Rattle.block_model.specs.Calls.Futexes.{anyone}
use Rattle.sys_calls.proofs.CallAnswers.{made_refused}
use Rattle.sys_calls.proofs.FutexWakes.{requeue_pages}
use Rattle.sys_calls.proofs.GuestMemory.{argument_is, int_argument_is}
use Rattle.sys_calls.proofs.WokenAnswers.{counted_made}
use Rattle.sys_calls.proofs.futexes.move_waiters.Goals as goal

pub returns-in-Ok : goal.returns-in-Ok
returns-in-Ok c = record {
  made = λ h hart told has read.
      let t = c.args.tid.0 in
      let k = c.args.kernel.now in
      let k' = c.requeue-count.new.kernel in
      let m = c.args.pages.now in
      let file = c.args.saved.now in
      let most : c.int_argument-most.result ≡ int_argument h t 2 = c.int_argument-most.ensures ∙ int_argument_is h t file read.file 2 in
      let more : c.int_argument-more.result ≡ int_argument h t 3 = c.int_argument-more.ensures ∙ int_argument_is h t file read.file 3 in
      let at : c.argument-at.result ≡ argument h t 0 = c.argument-at.ensures ∙ argument_is h t file read.file 0 in
      let to : c.argument-to.result ≡ argument h t 4 = c.argument-to.ensures ∙ argument_is h t file read.file 4 in
      let done : Woken = requeue (int_argument h t 2) (int_argument h t 3) (argument h t 0) (argument h t 4) anyone h.kernel in
      let woken = subst (λ (done : Woken). IsWoken h k k' done c.requeue-count.result) (λ i. requeue (most i) (more i) (at i) (to i) anyone h.kernel) (c.requeue-count.ensures.woken h told (λ m is. absurd cc)) in
      let made = counted_made h t c.args.here.0 k k' m file c.go_on.new.saved done c.requeue-count.result c.go_on.result
      hart told has read.file c.requires woken (requeue_pages (int_argument h t 2) (int_argument h t 3) (argument h t 0) (argument h t 4) anyone h.kernel) c.requeue-count.ensures.onward
      c.go_on.ensures.saved c.go_on.ensures.stays c.go_on.ensures.runs_on c.go_on.ensures.waits_in_none c.go_on.ensures.ends c.go_on.ensures.answer in
      subst (λ (d : CallDone). IsMade h t k m k' m c.go_on.new.saved c.go_on.result d) (sym (c.in-Ok.ensures.goes h t read)) made;
}

pub returns-in-Err : goal.returns-in-Err
returns-in-Err c = record {
  made = λ h hart told has read.
      let t = c.args.tid.0 in
      made_refused h t c.args.here.0 c.args.kernel.now c.args.pages.now c.args.saved.now c.go_on-in-Err.new.saved c.in-Err.errno c.go_on-in-Err.result (futex_requeue h t)
      hart told has read.file c.requires (c.in-Err.ensures.refused h t read)
      c.go_on-in-Err.ensures.saved c.go_on-in-Err.ensures.stays c.go_on-in-Err.ensures.runs_on c.go_on-in-Err.ensures.waits_in_none
      c.go_on-in-Err.ensures.ends c.go_on-in-Err.ensures.answer;
}
