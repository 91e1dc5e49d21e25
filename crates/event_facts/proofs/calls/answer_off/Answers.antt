use Rattle.std.proofs.Common.{◌≡◌, ◌∙◌, Some, ap, sym}
use Rattle.mach_types.specs.Kernel.Threads.{state_of}
use Rattle.mach_types.specs.declared.threads.ThreadState.{ThreadState}
use Rattle.mach_types.specs.declared.threads.ThreadState.TheVariants.{Ready}
use Rattle.kernel_threads.specs.Table.{saved_of}
use Rattle.kernel_threads.proofs.Laws.{ready_saves_something}
use Rattle.event_facts.proofs.CallAnswers.{nothing_saved}
use Rattle.event_facts.proofs.calls.answer_off.Goals as goal

pub unreachable-requires : goal.unreachable-requires
unreachable-requires c =
    let table = c.args.threads.now in
    let ready : state_of c.args.tid.0 table.threads ≡ Some Ready = sym c.state.ensures ∙ c.in-Some-Ready.is ∙ ap (λ (x : ThreadState). Some x) c.in-Some-Ready.field-0-is in
    nothing_saved (saved_of c.args.tid.0 table.saved) (sym c.saved.ensures ∙ c.in-None.is) (ready_saves_something c.args.tid.0 table c.live.ensures.table ready)
