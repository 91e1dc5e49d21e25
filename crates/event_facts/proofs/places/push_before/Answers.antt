use Rattle.std.proofs.Common.{◌∙◌, ◌++◌, ap, Option, subst}
use Rattle.mach_types.specs.Events.{choice_of}
use Rattle.mach_types.specs.Kernel.Signals.{Signalling}
use Rattle.mach_types.specs.Kernel.Threads.{Threads}
use Rattle.mach_types.specs.declared.events.Choice.{Choice}
use Rattle.block_model.specs.Deciding.{decide}
use Rattle.fact_types.specs.declared.calls.SystemCall.{SystemCall}
use Rattle.event_facts.specs.Calls.{call_facts}
use Rattle.event_facts.specs.Interruptions.{came_by}
use Rattle.event_facts.specs.Pending.{all_pending, delivered_by}
use Rattle.event_facts.specs.Telling.{here_on, past_of}
use Rattle.event_facts.specs.Threads.{AreBefore}
use Rattle.event_facts.proofs.Lists.{three_pieces}
use Rattle.event_facts.proofs.places.push_before.Goals as goal

pub returns-clause-before : goal.returns-clause-before
returns-clause-before c = let m = c.args.machine.now in let entry = c.args.entry in record {
  call = c.next_call-call.ensures;
  threads = subst (λ (ts : Threads). AreBefore ts c.in_ok-threads.threads) c.kernel-kernel.ensures.threads c.in_ok-threads.ensures;
  registers = c.in_ok-registers.ensures (here_on c.args.machine.now c.args.entry.hart.0) c.kernel-kernel.ensures.saved c.kernel-kernel.ensures.threads
      (λ i. (c.hart.ensures i).file);
  pending = c.in_ok-pending.ensures ∙ ap (λ (g : Signalling). all_pending g c.in_ok-threads.threads.given) c.kernel-kernel.ensures.signals;
  area = c.area_kept-area.ensures c.args.entry.hart.0;
  came = c.foreseen-came.ensures.allowed entry (ap (decide m.setting (past_of m) entry.hart.0) c.choice.ensures ∙ c.requires.decided)
      ∙ ap (λ (k : Choice). came_by k (here_on m entry.hart.0)) c.choice.ensures;
  delivered = c.next_delivered-delivered.ensures
      ∙ ap (λ (g : Signalling). delivered_by (choice_of c.args.entry) c.args.entry.tid.0 g) c.kernel-kernel.ensures.signals;
}

pub returns-clause-facts : goal.returns-clause-facts
returns-clause-facts c =
    three_pieces _ _ _ _ _ _ _ c.in_ok-push_fault_of.ensures c.in_ok-push_requests.ensures
    (c.in_ok-push_called.ensures ∙ ap (λ (o : Option SystemCall). c.push_requests.new.facts.items ++ call_facts o) c.next_call-call.ensures)
