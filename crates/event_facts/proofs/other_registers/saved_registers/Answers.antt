use Rattle.std.proofs.Common.{◌∙◌, ap}
use Rattle.mach_types.specs.Kernel.Threads.{state_of, thread_of}
use Rattle.kernel_threads.specs.Table.{saved_of}
use Rattle.event_facts.specs.OtherRegisters.{registers_of}
use Rattle.event_facts.proofs.OtherThreads.{none_live, saved_off}
use Rattle.event_facts.proofs.other_registers.saved_registers.Goals as goal

pub returns : goal.returns
returns c = λ file is.
    let t = c.args.tid.0 in
    let table = c.args.threads.now in
    let laws = c.thread_is_saved_while_it_does_not_run.ensures in
    let whole = c.live-live.ensures.table in
    c.registers_of.ensures
    ∙ ap registers_of c.saved.ensures
    ∙ saved_off (state_of t table.threads) (saved_of t table.saved) (file t)
    (λ st at off. laws.not_running t st table whole at off)
    (λ h at. laws.running t h table whole at)
    (λ none. laws.not_live t table whole (none_live (thread_of t table.threads) none))
    (is t)
