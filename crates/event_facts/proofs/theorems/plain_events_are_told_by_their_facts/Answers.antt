use Rattle.std.proofs.Common.{◌≡◌, ◌∙◌, ◌++◌, ◌∷◌, ap, append-nil}
use Rattle.mach_types.specs.Events.{choice_of}
use Rattle.block_model.specs.Deciding.{done, event}
use Rattle.block_model.specs.Here.{Done, runs}
use Rattle.block_model.specs.History.{here_in_history}
use Rattle.process.specs.Harts.{file_on}
use Rattle.event_facts.specs.Areas.{area_before, area_facts}
use Rattle.event_facts.specs.Calls.{answer_facts, call_facts}
use Rattle.event_facts.specs.Facts.{facts_of}
use Rattle.event_facts.specs.Interruptions.{interrupted_facts}
use Rattle.event_facts.specs.OtherRegisters.{other_registers}
use Rattle.event_facts.specs.Pending.{delivered_facts, signal_facts}
use Rattle.event_facts.specs.Requests.{begun_facts}
use Rattle.event_facts.specs.Threads.{thread_facts}
use Rattle.event_facts.specs.Trace.{trace_of}
use Rattle.event_facts.proofs.CallAnswers.{no_plain_call}
use Rattle.event_facts.proofs.Due.{what_is_done}
use Rattle.event_facts.proofs.Killings.{none_killed}
use Rattle.event_facts.proofs.OtherThreads.{none_of_others}
use Rattle.event_facts.proofs.PlainTraces.{none_of_kernel, no_plain_fault, no_plain_request, none_delivered, none_ended, none_interrupted, same_kernel}
use Rattle.event_facts.proofs.SignalChanges.{none_signalled}
use Rattle.event_facts.proofs.ThreadChanges.{none_changes}
use Rattle.event_facts.proofs.theorems.plain_events_are_told_by_their_facts.Goals as goal

pub returns : goal.returns
unfolding trace_of
returns c = λ s before entry p is.
    let choice = choice_of entry in
    let t = entry.tid.0 in
    let here = here_in_history s before entry.hart.0 in
    let threads = here.kernel.threads in
    let signals = here.kernel.signals in
    let past = event s before entry ∷ before in
    let after = here_in_history s past entry.hart.0 in
    let own = (file_on here (runs here)).file in
    let call = no_plain_call choice here p is in
    let fault = no_plain_fault choice here p is in
    let request = no_plain_request choice here p is in
    let delivery = none_delivered choice here p t signals is in
    let same : (done s before entry).kernel ≡ here.kernel = ap (λ (d : Done). d.kernel) (what_is_done s before entry) ∙ same_kernel choice here p is in
    let none = none_interrupted choice here p is in
    let killed = none_killed here choice (none_ended choice here p is) in
    (λ i. (fault i ++ request i ++ call_facts (call i))
    ++ (answer_facts s past entry (call i)
    ++ begun_facts (call i) after.awaits
    ++ interrupted_facts after entry (none i)
    ++ delivered_facts s past entry (delivery i)
    ++ signal_facts threads.given (delivery i) t signals (same i).signals
    ++ thread_facts threads (same i).threads
    ++ other_registers here.file threads own after.file (same i).threads
    ++ area_facts choice (call i) (area_before here t) after t)
    ++ facts_of s before entry
    ++ killed i)
    ∙ append-nil _
    ∙ (λ i. (none_signalled threads.given t signals i ++ none_changes threads i ++ none_of_others here.file after.file threads own i ++ none_of_kernel choice here p is (area_before here t) after t i) ++ facts_of s before entry)
