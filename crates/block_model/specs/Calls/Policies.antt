-- sched_getscheduler(2), sched_getparam(2), sched_get_priority_max(2) and sched_get_priority_min(2): how threads are scheduled, in
-- the words of sched(7). That each thread has the policy SCHED_OTHER is own; its priority is 0 then.
use Rattle.std.specs.Prelude.{ℕ, ◌^◌, ◌==◌, ◌||◌, ◌&&◌, Bool, not, nat_le, nat_lt, [], ◌∷◌, if◌then◌else◌}
use Rattle.mach_types.specs.declared.errors.TheConstants.{EFAULT, EINVAL, ESRCH}
use Rattle.block_model.specs.Here.{Here}
use Rattle.block_model.specs.Calls.Affinity.{names_nobody}
use Rattle.block_model.specs.Calls.Answers.{CallDone, Errors, argument, int_argument, are_writable, said, unless, word_written}

-- an `int` that is negative
abbrev pub is_negative : ℕ → Bool
is_negative n = nat_le (2 ^ 31) n

-- the policies: SCHED_OTHER 0, SCHED_FIFO 1, SCHED_RR 2, SCHED_BATCH 3, SCHED_IDLE 5 and SCHED_DEADLINE 6; and which of them have
-- priorities above 0
abbrev pub is_policy : ℕ → Bool
is_policy n = nat_lt n 7 && not (n == 4)

abbrev pub has_priorities : ℕ → Bool
has_priorities n = (n == 1) || (n == 2)

-- sched_getscheduler(tid), number 120: the number of SCHED_OTHER
abbrev pub getscheduler_errors : Here → ℕ → Errors
getscheduler_errors here t =
    let tid = int_argument here t 0 in
    (is_negative tid, EINVAL)
    ∷ (names_nobody here tid, ESRCH)
    ∷ []

abbrev pub sched_getscheduler : Here → ℕ → CallDone
sched_getscheduler here t = unless here t (getscheduler_errors here t) (said here t 0)

-- sched_getparam(tid, p), number 121: the priority, a u32
abbrev pub getparam_errors : Here → ℕ → Errors
getparam_errors here t =
    let tid = int_argument here t 0 in
    let p = argument here t 1 in
    ((p == 0) || is_negative tid, EINVAL)
    ∷ (names_nobody here tid, ESRCH)
    ∷ (not (are_writable here p 4), EFAULT)
    ∷ []

abbrev pub sched_getparam : Here → ℕ → CallDone
sched_getparam here t =
    unless here t (getparam_errors here t)
    (record (said here t 0) { entered = word_written (argument here t 1) 0 ∷ [] })

-- sched_get_priority_max(policy), number 125, and sched_get_priority_min(policy), number 126
abbrev pub priority_errors : Here → ℕ → Errors
priority_errors here t = (not (is_policy (int_argument here t 0)), EINVAL) ∷ []

abbrev pub sched_get_priority_max : Here → ℕ → CallDone
sched_get_priority_max here t =
    unless here t (priority_errors here t)
    (said here t (if has_priorities (int_argument here t 0) then 99 else 0))

abbrev pub sched_get_priority_min : Here → ℕ → CallDone
sched_get_priority_min here t =
    unless here t (priority_errors here t)
    (said here t (if has_priorities (int_argument here t 0) then 1 else 0))
