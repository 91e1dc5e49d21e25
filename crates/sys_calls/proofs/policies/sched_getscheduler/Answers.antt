-- The tests of the call, in their order.
use Rattle.sys_calls.proofs.Common.{◌≡◌, ℕ, not, ◌||◌, eqb, [], ◌∷◌, sym, ◌∙◌, EINVAL, ESRCH, Errors, Here, Saved, Threads, int_in, is_live, said, unless, cond-false, cond-true}
use Rattle.block_model.specs.Calls.Policies.{is_negative, sched_getscheduler}
use Rattle.sys_calls.proofs.GuestMemory.{int_argument_is}
use Rattle.sys_calls.proofs.policies.sched_getscheduler.Goals as goal

-- they are asked of the threads and of the number
abbrev tests : Threads → ℕ → Errors
tests threads named = (is_negative named, EINVAL) ∷ (not (eqb named 0 || is_live named threads), ESRCH) ∷ []

tests_are : (h : Here) (t : ℕ) (threads : Threads) (saved : Saved) → threads ≡ h.kernel.threads → saved ≡ h.file t → (named : ℕ) → named ≡ int_in saved 0
    → sched_getscheduler h t ≡ unless h t (tests threads named) (said h t 0)
tests_are h t threads saved same file named p =
    let named_is = p ∙ int_argument_is h t saved file 0 in
    sym (λ i. unless h t (tests (same i) (named_is i)) (said h t 0))

pub returns-then-is_negative-clause-answered : goal.returns-then-is_negative-clause-answered
returns-then-is_negative-clause-answered c = λ h t same file.
    tests_are h t c.args.threads.now.threads c.args.saved.now same file c.int_argument-named.result c.int_argument-named.ensures
    ∙ cond-true _ _ _ (sym c.is_negative.ensures ∙ c.if-is_negative.true)

pub returns-then-names_nobody-clause-answered : goal.returns-then-names_nobody-clause-answered
returns-then-names_nobody-clause-answered c = λ h t same file.
    tests_are h t c.args.threads.now.threads c.args.saved.now same file c.int_argument-named.result c.int_argument-named.ensures
    ∙ cond-false _ _ _ (sym c.is_negative.ensures ∙ c.if-is_negative.false)
    ∙ cond-true _ _ _ (sym c.names_nobody.ensures ∙ c.if-names_nobody.true)

pub returns-clause-answered : goal.returns-clause-answered
returns-clause-answered c = λ h t same file.
    tests_are h t c.args.threads.now.threads c.args.saved.now same file c.int_argument-named.result c.int_argument-named.ensures
    ∙ cond-false _ _ _ (sym c.is_negative.ensures ∙ c.if-is_negative.false)
    ∙ cond-false _ _ _ (sym c.names_nobody.ensures ∙ c.if-names_nobody.false)
