use Rattle.std.proofs.Common.{◌∙◌, ◌++◌, ℕ, Option, ap}
use Rattle.mach_types.specs.Kernel.Threads.{Threads}
use Rattle.mach_types.specs.declared.sequences.Outcome.{Outcome}
use Rattle.mach_types.specs.Events.{choice_of}
use Rattle.fact_types.specs.declared.calls.SystemCall.{SystemCall}
use Rattle.event_facts.specs.Areas.{area_facts}
use Rattle.event_facts.specs.Calls.{answer_facts}
use Rattle.event_facts.specs.Interruptions.{interrupted_facts}
use Rattle.block_model.specs.Here.{runs}
use Rattle.process.specs.Harts.{file_on}
use Rattle.event_facts.specs.OtherRegisters.{other_registers}
use Rattle.event_facts.specs.Pending.{delivered_facts, signal_facts}
use Rattle.event_facts.specs.Requests.{begun_facts}
use Rattle.event_facts.specs.Telling.{here_on, past_of}
use Rattle.event_facts.specs.Threads.{thread_facts}
use Rattle.event_facts.proofs.Lists.{eight_pieces, piece}
use Rattle.event_facts.proofs.places.push_after.Goals as goal

pub returns : goal.returns
returns c = λ here is.
    let m = c.args.machine.now in
    let entry = c.args.entry in
    eight_pieces _ _ _ _ _ _ _ _ _ _ _ _ _ _ _ _ _
    (piece _ _ _ _ c.in_ok-push_if.ensures
    (c.answered.ensures ∙ ap (λ (o : Option SystemCall). answer_facts m.setting (past_of m) entry o) is.call))
    (piece _ _ _ _ c.in_ok-push_if-2.ensures
    (c.begun.ensures ∙ (λ i. begun_facts (is.call i) (c.hart.ensures i).waits)))
    (piece _ _ _ _ c.in_ok-push_if-3.ensures
    (c.interrupted.ensures ∙ ap (λ (o : Option Outcome). interrupted_facts (here_on m entry.hart.0) entry o) is.came))
    (piece _ _ _ _ c.in_ok-push_if-4.ensures
    (c.delivery.ensures ∙ ap (λ (o : Option ℕ). delivered_facts m.setting (past_of m) entry o) is.delivered))
    (c.in_ok-push_signals.ensures here.kernel.signals (c.deref.ensures.value ∙ is.pending)
    ∙ (λ i. c.push_if-4.new.facts.items
    ++ signal_facts (is.threads.given i) (is.delivered i) entry.tid.0 here.kernel.signals (c.kernel-kernel.ensures.signals i)))
    (c.in_ok-push_threads.ensures here.kernel.threads is.threads
    ∙ ap (λ (ts : Threads). c.push_signals.new.facts.items ++ thread_facts here.kernel.threads ts) c.kernel-kernel.ensures.threads)
    (c.in_ok-push_other_registers.ensures here (here_on m entry.hart.0).file is.registers is.threads.given c.kernel-kernel.ensures.saved
    ∙ ap (λ (ts : Threads). c.push_threads.new.facts.items
    ++ other_registers here.file here.kernel.threads (file_on here (runs here)).file (here_on m entry.hart.0).file ts) c.kernel-kernel.ensures.threads)
    (c.in_ok-push_area.ensures
    ∙ (λ i. c.push_other_registers.new.facts.items
    ++ area_facts (choice_of entry) (is.call i) (is.area i) (here_on m entry.hart.0) entry.tid.0))
