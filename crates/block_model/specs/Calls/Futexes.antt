-- futex(2): a thread waits at the address of a word, and others wake it, or let it wait at another word. That the longest waiting is
-- woken first, and that waking none wakes nobody, is own.
use Rattle.std.specs.Prelude.{ℕ, ◌/◌, ◌%◌, ◌^◌, ◌==◌, ◌&&◌, ◌||◌, Bool, true, not, nat_le, zero, suc, List, [], ◌∷◌, length, map, if◌then◌else◌, Option, Some, None, is_some}
use Rattle.std.specs.Option.{option_map_or}
use Rattle.mach_types.specs.Registers.{with_register}
use Rattle.mach_types.specs.declared.address_space.TheConstants.{USER_END}
use Rattle.mach_types.specs.declared.errors.TheConstants.{EAGAIN, EFAULT, EINTR, EINVAL, ENOSYS}
use Rattle.mach_types.specs.declared.threads.Saved.{Saved}
use Rattle.block_model.specs.Record.{Kernel}
use Rattle.mach_types.specs.Kernel.Signals.{next_for}
use Rattle.mach_types.specs.Kernel.Futexes.{hears, operation}
use Rattle.mach_types.specs.Kernel.Threads.{longest_waiter}
use Rattle.block_model.specs.Here.{Here}
use Rattle.block_model.specs.Kernel.{requeued, waited, woken}
use Rattle.block_model.specs.Calls.Answers.{CallDone, Errors, argument, int_argument, are_readable, number_at, returned, said, unless}

-- a woken thread finds 0 in a0; one that waits at another word from now on has it there already
abbrev pub answered_wait : Here → ℕ → ℕ × Saved
answered_wait here u = (u, record (here.file u) { file = with_register (here.file u).file 10 0 })

-- threads that were woken, or wait at another word, in order, and the record then
pub record Woken : Type 0 where
  pub threads : List ℕ
  pub kernel : Kernel

abbrev pub nobody : Kernel → Woken
nobody k = record { threads = []; kernel = k }

-- one thread before others
abbrev pub woken_first : ℕ → Woken → Woken
woken_first u rest = record { threads = u ∷ rest.threads; kernel = rest.kernel }

-- of the threads that wait at an address and listen so many wait at another one from now on, the longest waiting first
abbrev pub move : ℕ → ℕ → ℕ → (ℕ → Bool) → Kernel → Woken
move zero at to listens k = nobody k
move (suc n) at to listens k =
    option_map_or (λ u. woken_first u (move n at to listens (requeued u to k))) (longest_waiter at listens k.threads) (nobody k)

-- of the threads that wait at an address and listen so many are woken, the longest waiting first, and so many more wait at another one
abbrev pub requeue : ℕ → ℕ → ℕ → ℕ → (ℕ → Bool) → Kernel → Woken
requeue zero more at to listens k = move more at to listens k
requeue (suc n) more at to listens k =
    option_map_or (λ u. woken_first u (requeue n more at to listens (woken u k))) (longest_waiter at listens k.threads) (nobody k)

-- so many are woken, and the others wait as before
abbrev pub wake : ℕ → ℕ → (ℕ → Bool) → Kernel → Woken
wake n at listens k = requeue n 0 at 0 listens k

-- whoever waits listens
abbrev pub anyone : ℕ → Bool
anyone t = true

abbrev pub is_by_clock : ℕ → Bool
is_by_clock op = (op / 256) % 2 == 1

-- what an operation does: 0 is WAIT and 9 WAIT_BITSET, 1 is WAKE and 10 WAKE_BITSET, 3 is REQUEUE and 4 CMP_REQUEUE
abbrev pub is_wait : ℕ → Bool
is_wait op = op == 0 || op == 9

abbrev pub is_wake : ℕ → Bool
is_wake op = op == 1 || op == 10

abbrev pub is_requeue : ℕ → Bool
is_requeue op = op == 3 || op == 4

-- which take a mask
abbrev pub has_mask : ℕ → Bool
has_mask op = op == 9 || op == 10

-- a negative `int`
abbrev pub is_negative : ℕ → Bool
is_negative n = nat_le (2 ^ 31) n

-- WAIT: the thread leaves its hart and waits, unless a signal can be delivered to it (a wait is never begun again: own, as if no handler
-- had SA_RESTART)
abbrev pub wait_errors : Here → ℕ → Errors
wait_errors here t =
    let p = argument here t 0 in
    (not (argument here t 3 == 0), EINVAL)
    ∷ (not (are_readable here p 4), EFAULT)
    ∷ (not (number_at here p 4 == int_argument here t 2), EAGAIN)
    ∷ (is_some (next_for t here.kernel.signals), EINTR)
    ∷ []

abbrev pub futex_wait : Here → ℕ → CallDone
futex_wait here t =
    unless here t (wait_errors here t)
    (record (said here t 0) { kernel = waited t (argument here t 0) here.kernel })

-- the answer is how many were woken or wait at another word
abbrev pub counted : Here → ℕ → Woken → CallDone
counted here t done = record {
  files = (t, returned (length done.threads) (here.file t)) ∷ map (answered_wait here) done.threads;
  entered = [];
  kernel = done.kernel;
  barrier = None;
  ended = None;
}

-- WAKE, and WAKE_BITSET, which has a mask
abbrev pub wake_mask : Here → ℕ → Option ℕ
wake_mask here t = if has_mask (operation (int_argument here t 1)) then Some (int_argument here t 5) else None

abbrev pub futex_wake : Here → ℕ → CallDone
futex_wake here t =
    counted here t (wake (int_argument here t 2) (argument here t 0) (λ u. hears (wake_mask here t) (here.file u)) here.kernel)

-- REQUEUE, and CMP_REQUEUE, which compares the word first; whoever waits listens. Both words being one is own
abbrev pub requeue_errors : Here → ℕ → Errors
requeue_errors here t =
    let p = argument here t 0 in
    let q = argument here t 4 in
    let compares = operation (int_argument here t 1) == 4 in
    (not (q % 4 == 0), EINVAL)
    ∷ (nat_le USER_END q, EFAULT)
    ∷ (q == p, EINVAL)
    ∷ (compares && not (are_readable here p 4), EFAULT)
    ∷ (compares && not (number_at here p 4 == int_argument here t 5), EAGAIN)
    ∷ []

abbrev pub futex_requeue : Here → ℕ → CallDone
futex_requeue here t =
    unless here t (requeue_errors here t)
    (counted here t (requeue (int_argument here t 2) (int_argument here t 3) (argument here t 0) (argument here t 4) anyone here.kernel))

-- futex(p, op, val, timeout or val2, q, val3), number 98
abbrev pub futex_errors : Here → ℕ → Errors
futex_errors here t =
    let p = argument here t 0 in
    let op = operation (int_argument here t 1) in
    let mask = int_argument here t 5 in
    (not (is_wait op || is_wake op || is_requeue op), ENOSYS)
    ∷ (is_by_clock (int_argument here t 1) && not (op == 9), ENOSYS)
    ∷ (has_mask op && mask == 0, EINVAL)
    ∷ (is_requeue op && (is_negative (int_argument here t 2) || is_negative (int_argument here t 3)), EINVAL)
    ∷ (not (p % 4 == 0), EINVAL)
    ∷ (nat_le USER_END p, EFAULT)
    ∷ []

abbrev pub futex : Here → ℕ → CallDone
futex here t =
    let op = operation (int_argument here t 1) in
    unless here t (futex_errors here t)
    (if is_wait op then futex_wait here t else if is_wake op then futex_wake here t else futex_requeue here t)
