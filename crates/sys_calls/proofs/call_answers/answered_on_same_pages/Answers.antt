-- Each call that changes no pages, by its number.
use Rattle.sys_calls.proofs.Common.{◌≡◌, ℕ, eqb, refl, sym, subst, ◌∙◌, arith, cond, Ok, ne_eqb, CallDone, IsAnswered, call_of, cond-false}
use Rattle.block_model.specs.Calls.{asking_call_of}
use Rattle.block_model.specs.Calls.Numbers.{getpid, gettid}
use Rattle.sys_calls.proofs.CallAnswers.{answered_said}
use Rattle.sys_calls.proofs.ThreadSignals.{signals_held}
use Rattle.sys_calls.proofs.call_answers.answered_on_same_pages.Goals as goal
use Rattle.sys_calls.proofs.CallNumbers.{by_number, silent_by_number}

pub returns-in-64-clause-answered : goal.returns-in-64-clause-answered
returns-in-64-clause-answered c = λ h hart told read. silent_by_number c.requires.fresh c.in-64.is (c.write.ensures.answered h c.args.tid.0 told read)

pub returns-in-66-clause-answered : goal.returns-in-66-clause-answered
returns-in-66-clause-answered c = λ h hart told read. silent_by_number c.requires.fresh c.in-66.is (c.writev.ensures.answered h c.args.tid.0 told read)

pub returns-in-172-clause-answered : goal.returns-in-172-clause-answered
returns-in-172-clause-answered c = λ h hart told read. silent_by_number c.requires.fresh c.in-172.is (answered_said h c.args.tid.0 c.args.kernel.now c.args.pages.now (Ok 1) (getpid h c.args.tid.0) told refl)

pub returns-in-178-clause-answered : goal.returns-in-178-clause-answered
returns-in-178-clause-answered c = λ h hart told read. silent_by_number c.requires.fresh c.in-178.is (answered_said h c.args.tid.0 c.args.kernel.now c.args.pages.now (Ok c.args.tid.0) (gettid h c.args.tid.0) told refl)

pub returns-in-96-clause-answered : goal.returns-in-96-clause-answered
returns-in-96-clause-answered c = λ h hart told read. silent_by_number c.requires.fresh c.in-96.is (c.set_tid_address.ensures.answered h c.args.pages.now told read)

pub returns-in-123-clause-answered : goal.returns-in-123-clause-answered
returns-in-123-clause-answered c = λ h hart told read. by_number c.in-123.is (c.sched_getaffinity.ensures.answered h told read)

pub returns-in-168-clause-answered : goal.returns-in-168-clause-answered
returns-in-168-clause-answered c = λ h hart told read. by_number c.in-168.is (c.getcpu.ensures.answered h c.args.kernel.now c.args.tid.0 hart told read)

pub returns-in-220-clause-answered : goal.returns-in-220-clause-answered
returns-in-220-clause-answered c = λ h hart told read. by_number c.in-220.is (c.clone.ensures.answered h told read)

pub rt_sigprocmask-requires-clause-held : goal.rt_sigprocmask-requires-clause-held
rt_sigprocmask-requires-clause-held c = signals_held c.args.tid.0 c.args.kernel.now c.requires.caller.signals c.requires.caller.live

pub returns-in-130-clause-answered : goal.returns-in-130-clause-answered
returns-in-130-clause-answered c = λ h hart told read. silent_by_number c.requires.fresh c.in-130.is (c.tkill.ensures.answered h c.args.tid.0 c.args.pages.now told read.file)

pub returns-in-131-clause-answered : goal.returns-in-131-clause-answered
returns-in-131-clause-answered c = λ h hart told read. silent_by_number c.requires.fresh c.in-131.is (c.tgkill.ensures.answered h c.args.tid.0 c.args.pages.now told read.file)

pub returns-in-134-clause-answered : goal.returns-in-134-clause-answered
returns-in-134-clause-answered c = λ h hart told read. by_number c.in-134.is (c.rt_sigaction.ensures.answered h c.args.tid.0 told read)

pub returns-in-135-clause-answered : goal.returns-in-135-clause-answered
returns-in-135-clause-answered c = λ h hart told read. by_number c.in-135.is (c.rt_sigprocmask.ensures.answered h told read)

pub asked-requires-clause-held : goal.asked-requires-clause-held
asked-requires-clause-held c = signals_held c.args.tid.0 c.args.kernel.now c.requires.caller.signals c.requires.caller.live

pub returns-in-278-clause-answered : goal.returns-in-278-clause-answered
returns-in-278-clause-answered c = λ h hart told read. by_number c.in-278.is (c.getrandom.ensures.answered h c.args.tid.0 told read)

-- the number isn't that one
is_not : (i n : ℕ) (x y : CallDone) → (n ≡ i → ⊥) → cond (eqb n i) x y ≡ y
is_not i n x y ne = cond-false (eqb n i) x y (ne_eqb n i ne)

pub returns-in_default-clause-answered : goal.returns-in_default-clause-answered
returns-in_default-clause-answered c = λ h hart told read.
    let t = c.args.tid.0 in
    let n = c.args.number in
    let o = c.requires.others in
    let p = c.requires.off_pages in
    let d = c.in_default in
    let is : call_of n h t ≡ asking_call_of n h t =
    is_not 283 n _ _ o.membarrier
    ∙ is_not 293 n _ _ o.rseq
    ∙ is_not 64 n _ _ (λ e. absurd (omega (arith, d, e)))
    ∙ is_not 66 n _ _ (λ e. absurd (omega (arith, d, e)))
    ∙ is_not 93 n _ _ o.exit
    ∙ is_not 94 n _ _ o.exit_group
    ∙ is_not 96 n _ _ (λ e. absurd (omega (arith, d, e)))
    ∙ is_not 98 n _ _ o.futex
    ∙ is_not 122 n _ _ o.sched_setaffinity
    ∙ is_not 123 n _ _ (λ e. absurd (omega (arith, d, e)))
    ∙ is_not 124 n _ _ o.sched_yield
    ∙ is_not 130 n _ _ (λ e. absurd (omega (arith, d, e)))
    ∙ is_not 131 n _ _ (λ e. absurd (omega (arith, d, e)))
    ∙ is_not 134 n _ _ (λ e. absurd (omega (arith, d, e)))
    ∙ is_not 135 n _ _ (λ e. absurd (omega (arith, d, e)))
    ∙ is_not 139 n _ _ o.rt_sigreturn
    ∙ is_not 168 n _ _ (λ e. absurd (omega (arith, d, e)))
    ∙ is_not 172 n _ _ (λ e. absurd (omega (arith, d, e)))
    ∙ is_not 178 n _ _ (λ e. absurd (omega (arith, d, e)))
    ∙ is_not 214 n _ _ p.brk
    ∙ is_not 215 n _ _ p.munmap
    ∙ is_not 220 n _ _ (λ e. absurd (omega (arith, d, e)))
    ∙ is_not 222 n _ _ p.mmap
    ∙ is_not 226 n _ _ p.mprotect
    ∙ is_not 233 n _ _ p.madvise
    ∙ is_not 278 n _ _ (λ e. absurd (omega (arith, d, e))) in
    subst (λ (d : CallDone). IsAnswered h t c.args.kernel.now c.args.pages.now c.args.kernel.now c.asked.new.pages c.asked.new.written.items c.asked.result d) (sym is)
    (c.asked.ensures.answered h told read)
