-- All that is told of an event (own), in order: what is read at the place before it, what is read at the place after it, and its facts of
-- memory, of reservations and of registers; and last why it ended the process by a signal, where it did.
use Rattle.std.specs.Prelude.{◌≡◌, List, ◌∷◌, ◌++◌}
use Rattle.mach_types.specs.Events.{choice_of}
use Rattle.mach_types.specs.declared.events.Choice.{Choice}
use Rattle.mach_types.specs.declared.events.Entry.{Entry}
use Rattle.block_model.specs.Deciding.{event}
use Rattle.block_model.specs.Here.{Here, runs}
use Rattle.block_model.specs.History.{History, here_in_history}
use Rattle.block_model.specs.Setting.{Setting}
use Rattle.process.specs.Harts.{file_on}
use Rattle.fact_types.specs.declared.facts.Fact.{Fact}
use Rattle.event_facts.specs.Areas.{area_before, area_facts}
use Rattle.event_facts.specs.Calls.{answer_facts, call_by, call_facts}
use Rattle.event_facts.specs.Facts.{facts_of}
use Rattle.event_facts.specs.Faults.{fault_facts}
use Rattle.event_facts.specs.Interruptions.{came_by, interrupted_facts}
use Rattle.event_facts.specs.Killing.{killed_facts}
use Rattle.event_facts.specs.OtherRegisters.{AreRegisters, other_registers}
use Rattle.event_facts.specs.Pending.{all_pending, delivered_by, delivered_facts, signal_facts}
use Rattle.event_facts.specs.Requests.{begun_facts, request_facts}
use Rattle.event_facts.specs.Threads.{AreBefore, thread_facts}
use Rattle.event_facts.specs.declared.places.Before.{Before}

-- before it: the fault that it makes, the requests of barriers that it takes or the barrier that returns by it, and the call that it makes
abbrev pub facts_before : Choice → Here → List Fact
facts_before c here = fault_facts c here ++ request_facts c here ++ call_facts (call_by c here)

-- after an entry, before which a rule may read this: how the call was answered that it is, the barrier that this began, what the interruption
-- of its thread came to, the delivery of a signal, and what became of pending signals, of threads, of the registers of other threads and of
-- the words of its thread's area
abbrev pub facts_after : Setting → History → Entry → Here → List Fact
facts_after s past entry here =
    let after = here_in_history s past entry.hart.0 in
    let call = call_by (choice_of entry) here in
    let delivered = delivered_by (choice_of entry) entry.tid.0 here.kernel.signals in
    answer_facts s past entry call
    ++ begun_facts call after.awaits
    ++ interrupted_facts after entry (came_by (choice_of entry) here)
    ++ delivered_facts s past entry delivered
    ++ signal_facts here.kernel.threads.given delivered entry.tid.0 here.kernel.signals after.kernel.signals
    ++ thread_facts here.kernel.threads after.kernel.threads
    ++ other_registers here.file here.kernel.threads (file_on here (runs here)).file after.file after.kernel.threads
    ++ area_facts (choice_of entry) call (area_before here entry.tid.0) after entry.tid.0

-- of an entry after a history
unfoldable pub trace_of : Setting → History → Entry → List Fact
trace_of s before entry =
    let here = here_in_history s before entry.hart.0 in
    facts_before (choice_of entry) here
    ++ facts_after s (event s before entry ∷ before) entry here
    ++ facts_of s before entry
    ++ killed_facts (choice_of entry) here

-- what is kept of the place before an entry
pub record IsBefore (entry : Entry) (here : Here) (x : Before) : Type 0 where
  pub call : x.call ≡ call_by (choice_of entry) here
  pub threads : AreBefore here.kernel.threads x.threads
  pub registers : AreRegisters here x.registers
  pub pending : x.pending.items ≡ all_pending here.kernel.signals x.threads.given
  pub area : x.area ≡ area_before here entry.tid.0
  pub came : x.came ≡ came_by (choice_of entry) here
  pub delivered : x.delivered ≡ delivered_by (choice_of entry) entry.tid.0 here.kernel.signals
