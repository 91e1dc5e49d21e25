-- Threads are woken, or the operation is refused.
use Rattle.sys_calls.proofs.Common.{◌≡◌, ℕ, Bool, ◌∙◌, sym, ap, subst, CallDone, IsMade, IsWoken, Woken, argument, futex, futex_of, futex_wake, int_argument, wake}
use Rattle.block_model.specs.Calls.Futexes.{wake_mask}
use Rattle.mach_types.specs.Kernel.Futexes.{hears}
use Rattle.sys_calls.specs.declared.futexes.Operation.{Operation}
use Rattle.sys_calls.proofs.CallAnswers.{made_refused}
use Rattle.sys_calls.proofs.FutexWakes.{requeue_pages}
use Rattle.sys_calls.proofs.GuestMemory.{argument_is, int_argument_is}
use Rattle.sys_calls.proofs.WokenAnswers.{counted_made}
use Rattle.sys_calls.proofs.futexes.futex.Goals as goal

pub returns-in-Ok-Wake : goal.returns-in-Ok-Wake
returns-in-Ok-Wake c = record {
  made = λ h hart told has read saved.
      let t = c.args.tid.0 in
      let k = c.args.kernel.now in
      let k' = c.wake-woken.new.kernel in
      let m = c.args.pages.now in
      let most : c.int_argument-most.result ≡ int_argument h t 2 = c.int_argument-most.ensures ∙ int_argument_is h t c.args.saved.now read.file 2 in
      let at : c.argument.result ≡ argument h t 0 = c.argument.ensures ∙ argument_is h t c.args.saved.now read.file 0 in
      let mask : c.wake_mask.result ≡ wake_mask h t = c.wake_mask.ensures h t read.file in
      let listens : ℕ → Bool = λ u. hears (wake_mask h t) (h.file u) in
      let woken = subst (λ (done : Woken). IsWoken h k k' done c.wake-woken.result) (λ i. wake (most i) (at i) (λ u. hears (mask i) (h.file u)) h.kernel)
      (c.wake-woken.ensures.woken h told (λ m is. saved)) in
      let made = counted_made h t c.args.here.0 k k' m c.args.saved.now c.go_on.new.saved (wake (int_argument h t 2) (argument h t 0) listens h.kernel) c.wake-woken.result c.go_on.result
      hart told has read.file c.requires woken (requeue_pages (int_argument h t 2) 0 (argument h t 0) 0 listens h.kernel) c.wake-woken.ensures.onward
      c.go_on.ensures.saved c.go_on.ensures.stays c.go_on.ensures.runs_on c.go_on.ensures.waits_in_none c.go_on.ensures.ends c.go_on.ensures.answer in
      let is : futex h t ≡ futex_wake h t = c.in-Ok-Wake.ensures.asked h t read.file ∙ ap (λ (op : Operation). futex_of op h t) c.in-Ok-Wake.field-0-is in
      subst (λ (d : CallDone). IsMade h t k m k' m c.go_on.new.saved c.go_on.result d) (sym is) made;
}

pub returns-in-Err : goal.returns-in-Err
returns-in-Err c = record {
  made = λ h hart told has read saved.
      let t = c.args.tid.0 in
      made_refused h t c.args.here.0 c.args.kernel.now c.args.pages.now c.args.saved.now c.go_on-in-Err.new.saved c.in-Err.errno c.go_on-in-Err.result (futex h t)
      hart told has read.file c.requires (c.in-Err.ensures.refused h t read.file)
      c.go_on-in-Err.ensures.saved c.go_on-in-Err.ensures.stays c.go_on-in-Err.ensures.runs_on c.go_on-in-Err.ensures.waits_in_none
      c.go_on-in-Err.ensures.ends c.go_on-in-Err.ensures.answer;
}
