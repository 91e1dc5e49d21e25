use Rattle.std.proofs.Common.{◌+◌, ◌∙◌, ◌++◌, Option, ap, arith}
use Rattle.mach_types.specs.Kernel.Threads.{Threads, state_of}
use Rattle.mach_types.specs.declared.threads.ThreadState.{ThreadState}
use Rattle.block_model.specs.Deciding.{history}
use Rattle.block_model.specs.History.{kernel}
use Rattle.event_facts.specs.Threads.{state_behind}
use Rattle.trace_text.specs.Traces.{waiting_line, waiting_text}
use Rattle.place_text.proofs.Lists.{all_numbers, range_step}
use Rattle.traced_runs.proofs.tracing.push_all_waiting.Goals as goal

pub loop-earlier-preserved : goal.loop-earlier-preserved
loop-earlier-preserved c =
    let m = c.args.machine.now in
    let ts = (kernel m.setting (history m.setting m.log)).threads in
    let k = c.loop-earlier.earlier in
    range_step (λ k. waiting_line (k + 1) (state_behind ts k)) _ _ _ k c.loop-earlier.invariant
    (c.in_ok-push_waiting.ensures
    ∙ ap (λ (o : Option ThreadState). c.loop-earlier.text.items ++ waiting_line (k + 1) o)
    (c.state.ensures ∙ ap (λ (us : Threads). state_of (k + 1) us) c.kernel.ensures.threads))

pub returns : goal.returns
unfolding waiting_text
returns c =
    let m = c.args.machine.now in
    let ts = (kernel m.setting (history m.setting m.log)).threads in
    let given = ap (λ (us : Threads). us.given) c.kernel.ensures.threads in
    all_numbers (λ k. waiting_line (k + 1) (state_behind ts k)) _ _ c.loop-earlier.earlier ts.given (omega (arith, given)) c.loop-earlier.invariant
