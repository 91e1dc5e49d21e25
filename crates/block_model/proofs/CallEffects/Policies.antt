-- sched_getscheduler(2), sched_getparam(2), sched_get_priority_max(2) and sched_get_priority_min(2).
use Rattle.block_model.proofs.Common.{ℕ, [], arith, Here, are_writable, argument, not-false}
use Rattle.block_model.specs.Calls.Policies.{getparam_errors, getscheduler_errors, priority_errors, sched_get_priority_max, sched_get_priority_min, sched_getparam, sched_getscheduler}
use Rattle.block_model.proofs.CallEffects.{CallDeed, Same, Says, answers_0, by_errors}

module _ (here : Here) (t number : ℕ) where
  pub deed_getscheduler : CallDeed here t number (sched_getscheduler here t)
  deed_getscheduler = by_errors (getscheduler_errors here t) _ (λ _. Says 0)

  pub deed_getparam : CallDeed here t number (sched_getparam here t)
  deed_getparam = by_errors (getparam_errors here t) _
      (λ none. answers_0 _ _ ((omega arith, not-false (are_writable here (argument here t 1) 4) none.1.1.0), tt) Same)

  pub deed_priority_max : CallDeed here t number (sched_get_priority_max here t)
  deed_priority_max = by_errors (priority_errors here t) _ (λ _. Says _)

  pub deed_priority_min : CallDeed here t number (sched_get_priority_min here t)
  deed_priority_min = by_errors (priority_errors here t) _ (λ _. Says _)
