-- The tests of the call, in their order; and the priority is written.
use Rattle.sys_calls.proofs.Common.{◌≡◌, ℕ, Bool, not, ◌||◌, eqb, List, [], ◌∷◌, ◌++◌, Ok, Err, sym, ap, subst, ◌∙◌, EFAULT, EINVAL, ESRCH, CallDone, Errno, Errors, Here, HoldsTables, IsAnswered, IsRead, Kernel, Map, Saved, Threads, Write, can_write_in, each_byte, int_in, is_live, register, refused, said, unless, word_written, cond-false, cond-true}
use Rattle.block_model.specs.Calls.Policies.{is_negative, sched_getparam}
use Rattle.sys_calls.proofs.GuestMemory.{argument_is, int_argument_is, met, unmet}
use Rattle.sys_calls.proofs.CallAnswers.{answered_said, answered_wrote}
use Rattle.sys_calls.proofs.policies.sched_getparam.Goals as goal

-- they are asked of the page map, of the threads and of the registers
abbrev tests : (ℕ → Bool) → Threads → ℕ → ℕ → Errors
tests can threads named at =
    (eqb at 0 || is_negative named, EINVAL) ∷ (not (eqb named 0 || is_live named threads), ESRCH) ∷ (not (each_byte can at 4), EFAULT) ∷ []

abbrev priority_told : Here → ℕ → ℕ → CallDone
priority_told h t at = record (said h t 0) { entered = word_written at 0 ∷ [] }

tests_are : (h : Here) (m : Map) (t : ℕ) (threads : Threads) (saved : Saved) → threads ≡ h.kernel.threads → IsRead h m t saved → (named at : ℕ)
    → named ≡ int_in saved 0 → at ≡ register saved.file 11 → sched_getparam h t ≡ unless h t (tests (can_write_in m) threads named at) (priority_told h t at)
tests_are h m t threads saved same read named at p q =
    let named_is = p ∙ int_argument_is h t saved read.file 0 in
    let at_is = q ∙ argument_is h t saved read.file 1 in
    sym (λ i. unless h t (tests (read.writable i) (same i) (named_is i) (at_is i)) (priority_told h t (at_is i)))

-- a refusal writes nothing
refused_so : (h : Here) (t : ℕ) (k : Kernel) (m : Map) (e : Errno) (ws : List Write) → HoldsTables k h.kernel → ws ≡ []
    → sched_getparam h t ≡ refused h t e → IsAnswered h t k m k m ws (Err e) (sched_getparam h t)
refused_so h t k m e ws told fresh is =
    subst (λ (w : List Write). IsAnswered h t k m k m w (Err e) (sched_getparam h t)) (sym fresh) (answered_said h t k m (Err e) (sched_getparam h t) told is)

pub returns-then-is_amiss-clause-answered : goal.returns-then-is_amiss-clause-answered
returns-then-is_amiss-clause-answered c = λ h k t same told read.
    refused_so h t k c.args.pages.now EINVAL c.args.written.now.items told c.requires
    (tests_are h c.args.pages.now t c.args.threads.now.threads c.args.saved.now (ap (λ x. x.threads) (sym same) ∙ told.threads) read
    c.int_argument-named.result c.argument-at.result c.int_argument-named.ensures c.argument-at.ensures
    ∙ cond-true _ _ _ (sym c.is_amiss.ensures ∙ c.if-is_amiss.true))

pub returns-then-names_nobody-clause-answered : goal.returns-then-names_nobody-clause-answered
returns-then-names_nobody-clause-answered c = λ h k t same told read.
    refused_so h t k c.args.pages.now ESRCH c.args.written.now.items told c.requires
    (tests_are h c.args.pages.now t c.args.threads.now.threads c.args.saved.now (ap (λ x. x.threads) (sym same) ∙ told.threads) read
    c.int_argument-named.result c.argument-at.result c.int_argument-named.ensures c.argument-at.ensures
    ∙ cond-false _ _ _ (sym c.is_amiss.ensures ∙ c.if-is_amiss.false) ∙ cond-true _ _ _ (sym c.names_nobody.ensures ∙ c.if-names_nobody.true))

pub returns-then-not-writable-clause-answered : goal.returns-then-not-writable-clause-answered
returns-then-not-writable-clause-answered c = λ h k t same told read.
    refused_so h t k c.args.pages.now EFAULT c.args.written.now.items told c.requires
    (tests_are h c.args.pages.now t c.args.threads.now.threads c.args.saved.now (ap (λ x. x.threads) (sym same) ∙ told.threads) read
    c.int_argument-named.result c.argument-at.result c.int_argument-named.ensures c.argument-at.ensures
    ∙ cond-false _ _ _ (sym c.is_amiss.ensures ∙ c.if-is_amiss.false) ∙ cond-false _ _ _ (sym c.names_nobody.ensures ∙ c.if-names_nobody.false)
    ∙ unmet _ _ (sym c.writable.ensures ∙ c.if-not-writable.true))

pub returns-clause-answered : goal.returns-clause-answered
returns-clause-answered c = λ h k t same told read.
    let m = c.args.pages.now in
    let m' = c.write_word.new.pages in
    let ws : List Write = word_written c.argument-at.result 0 ∷ [] in
    let is : sched_getparam h t ≡ priority_told h t c.argument-at.result =
    tests_are h m t c.args.threads.now.threads c.args.saved.now (ap (λ x. x.threads) (sym same) ∙ told.threads) read
    c.int_argument-named.result c.argument-at.result c.int_argument-named.ensures c.argument-at.ensures
    ∙ cond-false _ _ _ (sym c.is_amiss.ensures ∙ c.if-is_amiss.false) ∙ cond-false _ _ _ (sym c.names_nobody.ensures ∙ c.if-names_nobody.false)
    ∙ met _ _ (sym c.writable.ensures ∙ c.if-not-writable.false) in
    let done = answered_wrote h t k m m' (Ok 0) ws told c.write_word.ensures.entered in
    subst (λ (w : List Write). IsAnswered h t k m k m' w (Ok 0) (sched_getparam h t)) (sym (c.write_word.ensures.told ∙ ap (λ (w : List Write). w ++ ws) c.requires))
    (subst (λ (d : CallDone). IsAnswered h t k m k m' ws (Ok 0) d) (sym is) done)
