use Rattle.std.proofs.Common.{◌+◌, ◌<◌, ◌++◌, ◌∙◌, List, ap, arith, length, subst, sym}
use Rattle.mach_types.specs.Events.{choice_of}
use Rattle.mach_types.specs.declared.events.Entry.{Entry}
use Rattle.block_model.specs.Deciding.{end_of}
use Rattle.block_model.specs.Setting.{Seen}
use Rattle.fact_types.specs.declared.facts.Fact.{Fact}
use Rattle.event_facts.specs.Killing.{told_at}
use Rattle.event_facts.specs.Telling.{here_on, past_of}
use Rattle.event_facts.specs.Trace.{facts_after, trace_of}
use Rattle.event_facts.proofs.Due.{due, few_lines, line_is, past_after}
use Rattle.event_facts.proofs.KernelDeeds.{not_plain}
use Rattle.event_facts.proofs.KernelFacts.{kernel_lines, kernel_told}
use Rattle.event_facts.proofs.Killings.{killed_told}
use Rattle.event_facts.proofs.LinesOfBytes.{is_latest}
use Rattle.event_facts.proofs.Lists.{four_pieces}
use Rattle.event_facts.proofs.kernel_events.tell_kernel.Goals as goal

pub overflow_cast-line : goal.overflow_cast-line
overflow_cast-line c =
    let few = few_lines c.args.machine.now c.args.entry c.requires.run c.requires.decided c.requires.limits in
    omega (arith, ap length c.log.ensures)

pub overflow_add-line : goal.overflow_add-line
overflow_add-line c =
    let few = few_lines c.args.machine.now c.args.entry c.requires.run c.requires.decided c.requires.limits in
    omega (arith, ap length c.log.ensures)

pub push_before-requires-clause-hart : goal.push_before-requires-clause-hart
push_before-requires-clause-hart c = (due c.args.machine.now c.args.entry c.requires.run c.requires.decided).lt

pub make_kernel-requires-clause-plain : goal.make_kernel-requires-clause-plain
make_kernel-requires-clause-plain c =
    let m = c.args.machine.now in
    let entry = c.args.entry in
    not_plain (choice_of entry) (here_on m entry.hart.0) (due m entry c.requires.run c.requires.decided).free c.requires.event

pub make_kernel-requires-clause-call : goal.make_kernel-requires-clause-call
make_kernel-requires-clause-call c = c.in_ok-before.ensures.before.call

pub why_killing-why-requires-clause-call : goal.why_killing-why-requires-clause-call
why_killing-why-requires-clause-call c = c.in_ok-before.ensures.before.call

pub why_killing-why-requires-clause-came : goal.why_killing-why-requires-clause-came
why_killing-why-requires-clause-came c = c.in_ok-before.ensures.before.came

pub push_after-requires : goal.push_after-requires
push_after-requires c =
    subst (λ (m : Seen). c.args.entry.hart.0 < m.setting.limits.harts) (sym c.in_ok-written.ensures.machine)
    (due c.args.machine.now c.args.entry c.requires.run c.requires.decided).lt

pub push_kernel-requires : goal.push_kernel-requires
push_kernel-requires c =
    subst (λ (m : Seen). c.args.entry.hart.0 < m.setting.limits.harts) (sym c.in_ok-written.ensures.machine)
    (due c.args.machine.now c.args.entry c.requires.run c.requires.decided).lt

pub note_kernel-requires : goal.note_kernel-requires
note_kernel-requires c =
    let m = c.args.machine.now in
    let line = ap (λ (l : List Entry). length l + 1) c.log.ensures ∙ line_is m in
    is_latest m.setting m.setting.limits.harts (past_of m) c.args.lines.now _ c.requires.lines line

pub returns-clause-facts : goal.returns-clause-facts
unfolding trace_of
returns-clause-facts c =
    let m = c.args.machine.now in
    let m' = c.make_kernel.new.machine in
    let entry = c.args.entry in
    let here = here_on m entry.hart.0 in
    let made = c.in_ok-written.ensures.machine in
    let is = c.in_ok-before.ensures.before in
    let line = ap (λ (l : List Entry). length l + 1) c.log.ensures ∙ line_is m in
    let same = ap (λ (z : Seen). z.setting) made in
    let past = past_after m m' entry made in
    four_pieces _ _ _ _ _ _ _ _ _
    c.in_ok-before.ensures.facts
    (c.in_ok-push_after.ensures here is ∙ (λ i. c.push_before.new.facts.items ++ facts_after (same i) (past i) entry here))
    (c.in_ok-push_kernel.ensures
    ∙ ap (λ (l : List Fact). c.push_after.new.facts.items ++ l)
    (kernel_told m m' entry c.requires.run c.requires.decided made c.requires.event _ _ _ _ is.registers.own (c.deref.ensures.value ∙ c.in_ok-reserved.ensures)
    (c.deref-2.ensures.value ∙ c.in_ok-written.ensures.written) line))
    (c.in_ok-push_killed.ensures
    ∙ ap (λ (l : List Fact). c.push_kernel.new.facts.items ++ l)
    ((λ i. told_at (end_of (same i) (past i)) c.why_killing-why.result)
    ∙ killed_told m.setting (past_of m) entry c.why_killing-why.result c.requires.decided c.why_killing-why.ensures))

pub returns-clause-lines : goal.returns-clause-lines
returns-clause-lines c =
    let m = c.args.machine.now in
    let m' = c.make_kernel.new.machine in
    let line = ap (λ (l : List Entry). length l + 1) c.log.ensures ∙ line_is m in
    kernel_lines m m' c.args.entry c.requires.run c.requires.decided c.in_ok-written.ensures.machine c.requires.event _ _ c.args.lines.now c.note_kernel.new.self
    (c.deref-3.ensures.value ∙ c.in_ok-written.ensures.written) line c.requires.lines c.in_ok-note_kernel.ensures.waiting c.in_ok-note_kernel.ensures.lines
