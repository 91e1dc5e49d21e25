-- The thread that waited longest is ready, runs, and waits again.
use Rattle.sys_calls.proofs.Common.{◌≡◌, ◌∙◌, Some, None, Option, sym, ap, option_map, Ready, Saved, Threads, Waiting, answering, longest_waiter, longest_waits, on, saved_of, state_now, state_of, waits, with_saved, with_waiter, with_woken, with_state}
use Rattle.kernel_threads.proofs.Laws.{saved_of-answered}
use Rattle.kernel_threads.specs.Table.{hears_saved}
use Rattle.sys_calls.proofs.FutexWakes.{saved_over, waiter_over}
use Rattle.sys_calls.proofs.waking.move_one.Goals as goal

pub run-saved-requires : goal.run-saved-requires
run-saved-requires c =
    let ts = c.args.kernel.now.threads.threads in
    let u = c.in_ok-tid.tid.0 in
    let longest : longest_waiter c.args.at (hears_saved c.args.mask c.args.kernel.now.threads.saved) ts ≡ Some u = sym c.in_ok-tid.ensures.longest in
    let waiting : waits ts u = longest_waits c.args.at (hears_saved c.args.mask c.args.kernel.now.threads.saved) ts u longest in
    ap (state_of u) c.in_ok-tid.ensures.threads ∙ state_now u Ready (Waiting waiting.0) ts waiting.1

pub wait-requires : goal.wait-requires
wait-requires c =
    let ts = c.args.kernel.now.threads.threads in
    let u = c.in_ok-tid.tid.0 in
    let longest : longest_waiter c.args.at (hears_saved c.args.mask c.args.kernel.now.threads.saved) ts ≡ Some u = sym c.in_ok-tid.ensures.longest in
    let waiting : waits ts u = longest_waits c.args.at (hears_saved c.args.mask c.args.kernel.now.threads.saved) ts u longest in
    let woke = with_woken u ts in
    let ready : state_of u woke ≡ Some Ready = state_now u Ready (Waiting waiting.0) ts waiting.1 in (
      record { 0 = 0 },
      ap (state_of u) c.run-saved.ensures.threads ∙ ap (λ (us : Threads). state_of u (with_state u (on 0) us)) c.in_ok-tid.ensures.threads
          ∙ state_now u (on 0) Ready woke ready,
    )

pub returns-clause-threads : goal.returns-clause-threads
returns-clause-threads c =
    let u = c.in_ok-tid.tid.0 in
    c.wait.ensures.threads ∙ ap (with_waiter u c.args.to) c.run-saved.ensures.threads
    ∙ ap (λ (us : Threads). with_waiter u c.args.to (with_state u (on 0) us)) c.in_ok-tid.ensures.threads
    ∙ waiter_over u c.args.to (on 0) (with_woken u c.args.kernel.now.threads.threads)

pub returns-clause-saved : goal.returns-clause-saved
returns-clause-saved c =
    let u = c.in_ok-tid.tid.0 in
    let old = c.args.kernel.now.threads.saved in
    let kept : Option Saved = option_map (answering 0) (saved_of u old) in
    let same : Some c.run-saved.result ≡ kept =
    c.run-saved.ensures.answer ∙ ap (saved_of u) c.in_ok-tid.ensures.saved ∙ saved_of-answered u 0 old in
    c.wait.ensures.saved ∙ ap (with_saved u (Some c.run-saved.result)) (c.run-saved.ensures.saved ∙ ap (with_saved u None) c.in_ok-tid.ensures.saved)
    ∙ saved_over u (Some c.run-saved.result) None (with_saved u kept old) ∙ saved_over u (Some c.run-saved.result) kept old
    ∙ ap (λ (o : Option Saved). with_saved u o old) same
