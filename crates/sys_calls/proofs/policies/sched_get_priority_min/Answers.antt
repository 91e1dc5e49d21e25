-- Whether there is the policy, and then whether it has priorities.
use Rattle.sys_calls.proofs.Common.{◌≡◌, ℕ, not, cond, [], ◌∷◌, sym, ◌∙◌, EINVAL, Here, Saved, int_in, said, unless}
use Rattle.block_model.specs.Calls.Policies.{has_priorities, is_policy, sched_get_priority_min}
use Rattle.sys_calls.proofs.GuestMemory.{int_argument_is, unmet}
use Rattle.sys_calls.proofs.policies.sched_get_priority_min.Goals as goal

test_is : (h : Here) (t : ℕ) (saved : Saved) → saved ≡ h.file t → (policy : ℕ) → policy ≡ int_in saved 0
    → sched_get_priority_min h t ≡ unless h t ((not (is_policy policy), EINVAL) ∷ []) (said h t (cond (has_priorities policy) 1 0))
test_is h t saved file policy p =
    let is = p ∙ int_argument_is h t saved file 0 in
    sym (λ i. unless h t ((not (is_policy (is i)), EINVAL) ∷ []) (said h t (cond (has_priorities (is i)) 1 0)))

pub returns-then-not-is_policy-clause-answered : goal.returns-then-not-is_policy-clause-answered
returns-then-not-is_policy-clause-answered c = λ h t file.
    test_is h t c.args.saved.now file c.int_argument-policy.result c.int_argument-policy.ensures
    ∙ unmet _ _ (sym c.is_policy.ensures ∙ c.if-not-is_policy.true)
