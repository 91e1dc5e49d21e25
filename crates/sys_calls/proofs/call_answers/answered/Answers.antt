-- The calls over pages, by their numbers, and the others.
use Rattle.sys_calls.proofs.Common.{ℕ, [], sym, subst, Ok, Result, Errno, IsAnswered, call_of}
use Rattle.sys_calls.proofs.CallAnswers.{answered_remapped}
use Rattle.sys_calls.proofs.call_answers.answered.Goals as goal
use Rattle.sys_calls.proofs.CallNumbers.{by_number, silent_by_number}

pub returns-in-214-clause-answered : goal.returns-in-214-clause-answered
returns-in-214-clause-answered c = λ h hart told has read.
    let t = c.args.tid.0 in
    by_number c.in-214.is
    (answered_remapped h t c.args.kernel.now c.args.pages.now c.brk.new.pages c.brk.new.written.items (Ok c.brk.result) (call_of 214 h t) told (c.brk.ensures.remapped h t has read.file))

pub returns-in-215-clause-answered : goal.returns-in-215-clause-answered
returns-in-215-clause-answered c = λ h hart told has read.
    let t = c.args.tid.0 in
    silent_by_number c.requires.fresh c.in-215.is
    (answered_remapped h t c.args.kernel.now c.args.pages.now c.munmap.new.pages [] c.munmap.result (call_of 215 h t) told (c.munmap.ensures.remapped h t has read.file))

pub returns-in_default-clause-answered : goal.returns-in_default-clause-answered
returns-in_default-clause-answered c = λ h hart told has read.
    let t = c.args.tid.0 in
    let k' = c.answered_on_same_pages.new.kernel in
    let m' = c.answered_on_same_pages.new.pages in
    let w = c.answered_on_same_pages.new.written.items in
    subst (λ (r : Result ℕ Errno). IsAnswered h t c.args.kernel.now c.args.pages.now k' m' w r (call_of c.args.number h t)) (sym c.widened.ensures)
    (c.answered_on_same_pages.ensures.answered h hart told read)

pub returns-in-222-clause-answered : goal.returns-in-222-clause-answered
returns-in-222-clause-answered c = λ h hart told has read.
    let t = c.args.tid.0 in
    by_number c.in-222.is
    (answered_remapped h t c.args.kernel.now c.args.pages.now c.mmap.new.pages c.mmap.new.written.items c.mmap.result (call_of 222 h t) told (c.mmap.ensures.remapped h t has read.file))

pub returns-in-226-clause-answered : goal.returns-in-226-clause-answered
returns-in-226-clause-answered c = λ h hart told has read.
    let t = c.args.tid.0 in
    silent_by_number c.requires.fresh c.in-226.is
    (answered_remapped h t c.args.kernel.now c.args.pages.now c.mprotect.new.pages [] c.mprotect.result (call_of 226 h t) told (c.mprotect.ensures.remapped h t has read.file))

pub returns-in-233-clause-answered : goal.returns-in-233-clause-answered
returns-in-233-clause-answered c = λ h hart told has read.
    let t = c.args.tid.0 in
    by_number c.in-233.is
    (answered_remapped h t c.args.kernel.now c.args.pages.now c.madvise.new.pages c.madvise.new.written.items c.madvise.result (call_of 233 h t) told (c.madvise.ensures.remapped h t has read.file))
