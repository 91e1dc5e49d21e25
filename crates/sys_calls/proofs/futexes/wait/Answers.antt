-- The thread waits, with the answer of its wait.
use Rattle.sys_calls.proofs.Common.{◌≡◌, ℕ, refl, sym, ap, subst, ◌∙◌, Threads, running_on, state_of, Waiting, CallDone, IsMade, Kernel, argument, on, returned, without_id, waited, futex_wait, state_now, with_waiter, waited_idle}
use Rattle.sys_calls.specs.declared.calling.CallEnd.TheVariants as over
use Rattle.sys_calls.proofs.Laws.{holds_past_ids, holds_threads}
use Rattle.sys_calls.proofs.CallAnswers.{made_gone, made_refused}
use Rattle.sys_calls.proofs.GuestMemory.{argument_is}
use Rattle.sys_calls.proofs.ThreadSignals.{caller_signalled}
use Rattle.sys_calls.proofs.CallerTables.{caller_runs, runs_there}
use Rattle.sys_calls.proofs.futexes.wait.Goals as goal

pub wait-requires : goal.wait-requires
wait-requires c = caller_runs c.args.kernel.now c.args.here.0 c.args.tid.0 c.requires

pub may_wait-requires : goal.may_wait-requires
may_wait-requires c = record { held = caller_signalled c.args.kernel.now c.args.here.0 c.args.tid.0 c.requires }

pub returns-in-Ok : goal.returns-in-Ok
returns-in-Ok c = record {
  made = λ h hart told has read.
      let t = c.args.tid.0 in
      let k = c.args.kernel.now in
      let k' : Kernel = record k { threads = c.wait.new.self } in
      let at : c.argument-at.result ≡ argument h t 0 = c.argument-at.ensures ∙ argument_is h t c.args.saved.now read.file 0 in
      let idle = waited_idle c.requires.tables.0 c.args.here.0 t (argument h t 0) k.threads.threads k.ready c.requires.tables.1 c.requires.runs in
      let waits_now = ap (λ (ts : Threads). state_of t (with_waiter t (argument h t 0) ts)) (sym told.threads)
      ∙ state_now t (Waiting (argument h t 0)) (on c.args.here.0) k.threads.threads (runs_there k c.args.here.0 t c.requires) in
      let queue = with_waiter t (argument h t 0) h.kernel.threads in
      let queued : k'.threads.threads ≡ queue =
      c.wait.ensures.threads ∙ ap (λ (a : ℕ). with_waiter t a k.threads.threads) at ∙ ap (with_waiter t (argument h t 0)) told.threads in
      let held = holds_past_ids (holds_threads told c.wait.new.self queue queued) (without_id t h.kernel.ids) in
      let made = made_gone h t c.args.here.0 k k' c.args.pages.now c.answer.new.saved over.Block (waited t (argument h t 0) h.kernel) hart has refl held refl
      c.wait.ensures.saved (c.answer.ensures.saved ∙ ap (returned 0) read.file)
      (ap (λ (ts : Threads). running_on c.args.here.0 (with_waiter t (argument h t 0) ts)) (sym told.threads) ∙ idle) refl (argument h t 0, waits_now) refl refl tt in
      subst (λ (d : CallDone). IsMade h t k c.args.pages.now k' c.args.pages.now c.answer.new.saved over.Block d) (sym (c.in-Ok.ensures.waits h told read)) made;
}

pub returns-in-Err : goal.returns-in-Err
returns-in-Err c = record {
  made = λ h hart told has read.
      let t = c.args.tid.0 in
      made_refused h t c.args.here.0 c.args.kernel.now c.args.pages.now c.args.saved.now c.go_on.new.saved c.in-Err.errno c.go_on.result (futex_wait h t)
      hart told has read.file c.requires (c.in-Err.ensures.refused h told read)
      c.go_on.ensures.saved c.go_on.ensures.stays c.go_on.ensures.runs_on c.go_on.ensures.waits_in_none c.go_on.ensures.ends c.go_on.ensures.answer;
}
