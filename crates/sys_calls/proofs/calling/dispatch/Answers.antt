-- Each call by its number.
use Rattle.sys_calls.proofs.Common.{refl, sym, ap, subst, ◌∙◌, [], CallEnd, IsAnswered, IsMade, running_on, called, ended_with, exit_group}
use Rattle.block_model.specs.Calls.Beside.{barrier_call, sequence_call}
use Rattle.sys_calls.proofs.Barriers.{silent_membarrier}
use Rattle.sys_calls.proofs.CallNumbers.{alone_by, made_alone, made_numbered, numbered, silent_futex, silent_setaffinity, silent_sigreturn, told_numbered}
use Rattle.sys_calls.proofs.CallAnswers.{made_answered, made_ended}
use Rattle.sys_calls.proofs.TablesAfterCalls.{agreed_after}
use Rattle.sys_calls.proofs.CallerTables.{caller_lives}
use Rattle.sys_calls.proofs.calling.dispatch.Goals as goal
use Rattle.sys_calls.proofs.KernelWrites.{entered_none}

pub answered-outcome-requires-clause-caller : goal.answered-outcome-requires-clause-caller
answered-outcome-requires-clause-caller c =
    let caller = c.requires.caller in
    record { tables = caller.tables; signals = caller.signals; live = caller_lives c.args.kernel.now c.args.caller.here.0 c.args.caller.tid.0 caller; numbers = c.requires.numbers }

pub returns-in-93-clause-made : goal.returns-in-93-clause-made
returns-in-93-clause-made c = λ h at.
    made_numbered at.file c.call_number.ensures c.in-93.is
    (c.exit.ensures.made h at.hart at.tables at.pages (c.shows_pages.ensures h c.args.caller.tid.0 c.args.saved.now at.pages at.file))

pub returns-in-93-clause-told : goal.returns-in-93-clause-told
returns-in-93-clause-told c = λ h at.
    told_numbered h c.args.caller.tid.0 at.file c.call_number.ensures c.in-93.is
    (c.exit.ensures.told h at.tables (c.shows_pages.ensures h c.args.caller.tid.0 c.args.saved.now at.pages at.file))

pub returns-in-94-clause-made : goal.returns-in-94-clause-made
returns-in-94-clause-made c = λ h at.
    let t = c.args.caller.tid.0 in
    let m = c.args.pages.now in
    made_numbered at.file c.call_number.ensures c.in-94.is
    (subst (λ (e : CallEnd). IsMade h t c.args.kernel.now m c.args.kernel.now m c.args.saved.now e (exit_group h t)) (sym (c.exit_group.ensures h t at.file))
    (made_ended h t c.args.caller.here.0 c.args.kernel.now m m c.args.saved.now [] [] (ended_with h t) (ended_with h t)
    at.hart at.tables at.file c.requires.caller at.pages (entered_none m) refl refl))

pub returns-in-98-clause-made : goal.returns-in-98-clause-made
returns-in-98-clause-made c = λ h at.
    made_numbered at.file c.call_number.ensures c.in-98.is
    (c.futex.ensures.made h at.hart at.tables at.pages (c.shows_pages.ensures h c.args.caller.tid.0 c.args.saved.now at.pages at.file) at.kept)

pub returns-in-98-clause-told : goal.returns-in-98-clause-told
returns-in-98-clause-told c = λ h at.
    told_numbered h c.args.caller.tid.0 at.file c.call_number.ensures c.in-98.is (c.requires.fresh ∙ sym (silent_futex h c.args.caller.tid.0))

pub returns-in-122-clause-made : goal.returns-in-122-clause-made
returns-in-122-clause-made c = λ h at.
    made_numbered at.file c.call_number.ensures c.in-122.is
    (c.sched_setaffinity.ensures.made h at.hart at.count at.tables at.pages (c.shows_pages.ensures h c.args.caller.tid.0 c.args.saved.now at.pages at.file))

pub returns-in-122-clause-told : goal.returns-in-122-clause-told
returns-in-122-clause-told c = λ h at.
    told_numbered h c.args.caller.tid.0 at.file c.call_number.ensures c.in-122.is (c.requires.fresh ∙ sym (silent_setaffinity h c.args.caller.tid.0))

pub returns-in-124-clause-made : goal.returns-in-124-clause-made
returns-in-124-clause-made c = λ h at.
    made_numbered at.file c.call_number.ensures c.in-124.is
    (c.sched_yield.ensures.made h c.args.pages.now at.hart at.tables at.pages at.file)

pub returns-in-139-clause-made : goal.returns-in-139-clause-made
returns-in-139-clause-made c = λ h at.
    made_numbered at.file c.call_number.ensures c.in-139.is
    (c.rt_sigreturn.ensures.made h at.hart at.tables at.pages (c.shows_pages.ensures h c.args.caller.tid.0 c.args.saved.now at.pages at.file))

pub returns-in-139-clause-told : goal.returns-in-139-clause-told
returns-in-139-clause-told c = λ h at.
    told_numbered h c.args.caller.tid.0 at.file c.call_number.ensures c.in-139.is (c.requires.fresh ∙ sym (silent_sigreturn h c.args.caller.tid.0))

pub returns-in-283-clause-made : goal.returns-in-283-clause-made
returns-in-283-clause-made c = λ h at.
    let alone = alone_by h c.args.caller.tid.0 at.file c.call_number.ensures c.in-283.is at.own (λ others. others.0) in
    made_numbered at.file c.call_number.ensures c.in-283.is
    (made_alone (λ o. barrier_call o h c.args.caller.tid.0) alone
    (c.membarrier.ensures.made h c.args.pages.now at.hart at.count at.running at.tables at.pages at.file))

pub returns-in-283-clause-told : goal.returns-in-283-clause-told
returns-in-283-clause-told c = λ h at.
    let alone = alone_by h c.args.caller.tid.0 at.file c.call_number.ensures c.in-283.is at.own (λ others. others.0) in
    told_numbered h c.args.caller.tid.0 at.file c.call_number.ensures c.in-283.is
    (c.requires.fresh ∙ sym (silent_membarrier h c.args.caller.tid.0) ∙ ap (λ o. (barrier_call o h c.args.caller.tid.0).entered) (sym alone))

pub returns-in-293-clause-made : goal.returns-in-293-clause-made
returns-in-293-clause-made c = λ h at.
    let alone = alone_by h c.args.caller.tid.0 at.file c.call_number.ensures c.in-293.is at.own (λ others. others.1) in
    made_numbered at.file c.call_number.ensures c.in-293.is
    (made_alone (λ o. sequence_call o h c.args.caller.tid.0) alone
    (c.rseq.ensures.made h at.hart at.tables at.pages (c.shows_pages.ensures h c.args.caller.tid.0 c.args.saved.now at.pages at.file) at.id))

pub returns-in-293-clause-told : goal.returns-in-293-clause-told
returns-in-293-clause-told c = λ h at.
    let alone = alone_by h c.args.caller.tid.0 at.file c.call_number.ensures c.in-293.is at.own (λ others. others.1) in
    told_numbered h c.args.caller.tid.0 at.file c.call_number.ensures c.in-293.is
    (c.rseq.ensures.told h at.hart at.tables (c.shows_pages.ensures h c.args.caller.tid.0 c.args.saved.now at.pages at.file) at.id
    ∙ ap (λ o. (sequence_call o h c.args.caller.tid.0).entered) (sym alone))

pub returns-in_default-clause-made : goal.returns-in_default-clause-made
returns-in_default-clause-made c = λ h at.
    let t = c.args.caller.tid.0 in
    let k = c.args.kernel.now in
    let m = c.args.pages.now in
    let read = c.shows_pages.ensures h t c.args.saved.now at.pages at.file in
    let k' = c.answered-outcome.new.kernel in
    let m' = c.answered-outcome.new.pages in
    let ws = c.answered-outcome.new.written.items in
    let is = numbered h t c.call_number.result c.call_number.result c.args.saved.now at.file c.call_number.ensures refl in
    let done = subst (IsAnswered h t k m k' m' ws c.answered-outcome.result) (sym is) (c.answered-outcome.ensures.answered h at.hart at.tables at.pages read) in
    let runs = ap (λ n. running_on n h.kernel.threads) at.hart ∙ ap (running_on c.args.caller.here.0) (sym at.tables.threads) ∙ c.requires.caller.runs in
    let agreed = agreed_after c.requires.caller.tables.0 h t k k' at.tables done.tables runs c.requires.caller.tables.1 c.requires.areas c.requires.caller.signals in
    made_answered h t c.args.caller.here.0 k k' m m' c.args.saved.now c.go_on.new.saved ws c.answered-outcome.result c.go_on.result
    (called h t) at.hart at.tables at.pages at.file c.requires.caller done (c.requires.caller.tables.0, agreed.tables)
    c.go_on.ensures.saved c.go_on.ensures.stays c.go_on.ensures.runs_on c.go_on.ensures.waits_in_none c.go_on.ensures.ends c.go_on.ensures.answer

pub returns-in_default-clause-told : goal.returns-in_default-clause-told
returns-in_default-clause-told c = λ h at.
    let read = c.shows_pages.ensures h c.args.caller.tid.0 c.args.saved.now at.pages at.file in
    let done = c.answered-outcome.ensures.answered h at.hart at.tables at.pages read in
    told_numbered h c.args.caller.tid.0 {i = c.call_number.result} at.file c.call_number.ensures refl done.told
