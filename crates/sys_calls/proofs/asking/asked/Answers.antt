-- Each call that only asks, by its number.
use Rattle.sys_calls.proofs.Common.{◌≡◌, ℕ, List, [], eqb, refl, sym, subst, ◌∙◌, arith, cond, Result, Ok, Err, Errno, ne_eqb, CallDone, Here, IsAnswered, Kernel, Map, Write, refused, cond-false, ENOSYS}
use Rattle.block_model.specs.Calls.{asking_call_of}
use Rattle.block_model.specs.Calls.Numbers.{getegid, geteuid, getgid, getppid, getuid}
use Rattle.block_model.specs.Calls.Policies.{sched_get_priority_max, sched_get_priority_min, sched_getscheduler}
use Rattle.sys_calls.proofs.CallAnswers.{answered_said}
use Rattle.sys_calls.proofs.asking.asked.Goals as goal

-- what a call came to, where the number is this one; and where it wrote nothing
by_number : {h : Here} {t : ℕ} {k k' : Kernel} {m m' : Map} {ws : List Write} {answer : Result ℕ Errno} {n i : ℕ} → n ≡ i
    → IsAnswered h t k m k' m' ws answer (asking_call_of i h t) → IsAnswered h t k m k' m' ws answer (asking_call_of n h t)
by_number {h = h} {t = t} {k = k} {k' = k'} {m = m} {m' = m'} {ws = ws} {answer = answer} is done =
    subst (λ (n : ℕ). IsAnswered h t k m k' m' ws answer (asking_call_of n h t)) (sym is) done

silent_by_number : {h : Here} {t : ℕ} {k k' : Kernel} {m m' : Map} {ws : List Write} {answer : Result ℕ Errno} {n i : ℕ} → ws ≡ [] → n ≡ i
    → IsAnswered h t k m k' m' [] answer (asking_call_of i h t) → IsAnswered h t k m k' m' ws answer (asking_call_of n h t)
silent_by_number {h = h} {t = t} {k = k} {k' = k'} {m = m} {m' = m'} {answer = answer} {n = n} none is done =
    subst (λ (ws : List Write). IsAnswered h t k m k' m' ws answer (asking_call_of n h t)) (sym none) (by_number is done)

pub returns-in-29-clause-answered : goal.returns-in-29-clause-answered
returns-in-29-clause-answered c = λ h told read. by_number c.in-29.is (c.ioctl.ensures.answered h c.args.kernel.now c.args.tid.0 told read)

pub returns-in-80-clause-answered : goal.returns-in-80-clause-answered
returns-in-80-clause-answered c = λ h told read. by_number c.in-80.is (c.fstat.ensures.answered h c.args.kernel.now c.args.tid.0 told read)

pub returns-in-160-clause-answered : goal.returns-in-160-clause-answered
returns-in-160-clause-answered c = λ h told read. by_number c.in-160.is (c.uname.ensures.answered h c.args.kernel.now c.args.tid.0 told read)

pub returns-in-120-clause-answered : goal.returns-in-120-clause-answered
returns-in-120-clause-answered c = λ h told read. silent_by_number c.requires.fresh c.in-120.is (answered_said h c.args.tid.0 c.args.kernel.now c.args.pages.now c.sched_getscheduler.result (sched_getscheduler h c.args.tid.0) told (c.sched_getscheduler.ensures.answered h c.args.tid.0 told.threads read.file))

pub returns-in-121-clause-answered : goal.returns-in-121-clause-answered
returns-in-121-clause-answered c = λ h told read. by_number c.in-121.is (c.sched_getparam.ensures.answered h c.args.kernel.now c.args.tid.0 refl told read)

pub returns-in-125-clause-answered : goal.returns-in-125-clause-answered
returns-in-125-clause-answered c = λ h told read. silent_by_number c.requires.fresh c.in-125.is (answered_said h c.args.tid.0 c.args.kernel.now c.args.pages.now c.sched_get_priority_max.result (sched_get_priority_max h c.args.tid.0) told (c.sched_get_priority_max.ensures.answered h c.args.tid.0 read.file))

pub returns-in-126-clause-answered : goal.returns-in-126-clause-answered
returns-in-126-clause-answered c = λ h told read. silent_by_number c.requires.fresh c.in-126.is (answered_said h c.args.tid.0 c.args.kernel.now c.args.pages.now c.sched_get_priority_min.result (sched_get_priority_min h c.args.tid.0) told (c.sched_get_priority_min.ensures.answered h c.args.tid.0 read.file))

pub returns-in-136-clause-answered : goal.returns-in-136-clause-answered
returns-in-136-clause-answered c = λ h told read. by_number c.in-136.is (c.rt_sigpending.ensures.answered h c.args.kernel.now refl told read)

pub returns-in-173-clause-answered : goal.returns-in-173-clause-answered
returns-in-173-clause-answered c = λ h told read. silent_by_number c.requires.fresh c.in-173.is (answered_said h c.args.tid.0 c.args.kernel.now c.args.pages.now (Ok 1) (getppid h c.args.tid.0) told refl)

pub returns-in-174-clause-answered : goal.returns-in-174-clause-answered
returns-in-174-clause-answered c = λ h told read. silent_by_number c.requires.fresh c.in-174.is (answered_said h c.args.tid.0 c.args.kernel.now c.args.pages.now (Ok 0) (getuid h c.args.tid.0) told refl)

pub returns-in-175-clause-answered : goal.returns-in-175-clause-answered
returns-in-175-clause-answered c = λ h told read. silent_by_number c.requires.fresh c.in-175.is (answered_said h c.args.tid.0 c.args.kernel.now c.args.pages.now (Ok 0) (geteuid h c.args.tid.0) told refl)

pub returns-in-176-clause-answered : goal.returns-in-176-clause-answered
returns-in-176-clause-answered c = λ h told read. silent_by_number c.requires.fresh c.in-176.is (answered_said h c.args.tid.0 c.args.kernel.now c.args.pages.now (Ok 0) (getgid h c.args.tid.0) told refl)

pub returns-in-177-clause-answered : goal.returns-in-177-clause-answered
returns-in-177-clause-answered c = λ h told read. silent_by_number c.requires.fresh c.in-177.is (answered_said h c.args.tid.0 c.args.kernel.now c.args.pages.now (Ok 0) (getegid h c.args.tid.0) told refl)

pub returns-in-261-clause-answered : goal.returns-in-261-clause-answered
returns-in-261-clause-answered c = λ h told read. by_number c.in-261.is (c.prlimit64.ensures.answered h c.args.kernel.now c.args.tid.0 refl told read)

-- the number isn't that one
is_not : (i n : ℕ) (x y : CallDone) → (n ≡ i → ⊥) → cond (eqb n i) x y ≡ y
is_not i n x y ne = cond-false (eqb n i) x y (ne_eqb n i ne)

pub returns-in_default-clause-answered : goal.returns-in_default-clause-answered
returns-in_default-clause-answered c = λ h told read.
    let t = c.args.tid.0 in
    let n = c.args.number in
    let k = c.args.kernel.now in
    let m = c.args.pages.now in
    let d = c.in_default in
    let is : asking_call_of n h t ≡ refused h t ENOSYS =
    is_not 29 n _ _ (λ e. absurd (omega (arith, d, e)))
    ∙ is_not 80 n _ _ (λ e. absurd (omega (arith, d, e)))
    ∙ is_not 120 n _ _ (λ e. absurd (omega (arith, d, e)))
    ∙ is_not 121 n _ _ (λ e. absurd (omega (arith, d, e)))
    ∙ is_not 125 n _ _ (λ e. absurd (omega (arith, d, e)))
    ∙ is_not 126 n _ _ (λ e. absurd (omega (arith, d, e)))
    ∙ is_not 136 n _ _ (λ e. absurd (omega (arith, d, e)))
    ∙ is_not 160 n _ _ (λ e. absurd (omega (arith, d, e)))
    ∙ is_not 173 n _ _ (λ e. absurd (omega (arith, d, e)))
    ∙ is_not 174 n _ _ (λ e. absurd (omega (arith, d, e)))
    ∙ is_not 175 n _ _ (λ e. absurd (omega (arith, d, e)))
    ∙ is_not 176 n _ _ (λ e. absurd (omega (arith, d, e)))
    ∙ is_not 177 n _ _ (λ e. absurd (omega (arith, d, e)))
    ∙ is_not 261 n _ _ (λ e. absurd (omega (arith, d, e))) in
    subst (λ (w : List Write). IsAnswered h t k m k m w (Err ENOSYS) (asking_call_of n h t)) (sym c.requires.fresh)
    (answered_said h t k m (Err ENOSYS) (asking_call_of n h t) told is)
