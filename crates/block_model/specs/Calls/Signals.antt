-- tkill(2), tgkill(2), sigaction(2), sigprocmask(2), sigpending(2) and sigreturn(2): a signal is posted to a thread, what is done when
-- one comes and which ones a thread masks is set, which of these are pending is told, and a handler returns. A set of signals has 8 bytes, and a call that is told another
-- size is refused. That there are 31 signals is own, and that nothing changes where the old action or mask can't be written.
use Rattle.std.specs.Prelude.{ℕ, ◌+◌, ◌^◌, ◌==◌, ◌||◌, ◌&&◌, Bool, false, not, nat_le, nat_lt, List, [], ◌∷◌, if◌then◌else◌, Option, Some, None, is_some, bit_and}
use Rattle.std.specs.Option.{option_map_or}
use Rattle.mach_types.specs.Kernel.SignalFrames as frame
use Rattle.mach_types.specs.Kernel.Signals.{Signalling, acted, action_of, changed_mask, mask_of, next_for, pending_of, posted, refuses_action, refuses_how, with_mask}
use Rattle.mach_types.specs.Kernel.Threads.{is_live, is_waiting_state, state_of}
use Rattle.mach_types.specs.Registers.{with_register}
use Rattle.mach_types.specs.declared.errors.TheConstants.{EFAULT, EINTR, EINVAL, ESRCH}
use Rattle.mach_types.specs.declared.signal_words.Action.{Action}
use Rattle.mach_types.specs.declared.signals.TheConstants.{LAST_SIGNAL, SIGSTOP}
use Rattle.mach_types.specs.declared.threads.Saved.{Saved}
use Rattle.mach_types.specs.declared.user_memory.Write.{Write}
use Rattle.block_model.specs.Record.{Kernel}
use Rattle.block_model.specs.Here.{Here, memory}
use Rattle.block_model.specs.Kernel.{signalled, woken}
use Rattle.block_model.specs.Calls.Answers.{CallDone, Errors, argument, int_argument, are_readable, are_writable, double_written, killed_in_call, negative, number_at, returned, said, unless}

-- A SIGNAL IS POSTED

-- the last of the signals that stop a process (SIGSTOP, SIGTSTP, SIGTTIN and SIGTTOU), which can't be sent (own)
abbrev pub last_stop_signal : ℕ
last_stop_signal = 22

-- whether no signal of this number can be sent; 0 is none, and asks only whether there is a thread
abbrev pub refuses_signal : ℕ → Bool
refuses_signal sig = nat_lt LAST_SIGNAL sig || (nat_le SIGSTOP sig && nat_le sig last_stop_signal)

-- an `int` that is 0 or negative
abbrev pub is_below_one : ℕ → Bool
is_below_one n = (n == 0) || nat_le (2 ^ 31) n

-- whether thread u waits, and a signal can be delivered to it (signal(7), "Interruption of system calls")
abbrev pub waits_in_vain : ℕ → Kernel → Bool
waits_in_vain u k = option_map_or is_waiting_state (state_of u k.threads) false && is_some (next_for u k.signals)

-- a thread whose wait a signal broke finds EINTR in a0
abbrev pub broken_wait : Here → ℕ → ℕ × Saved
broken_wait here u = (u, record (here.file u) { file = with_register (here.file u).file 10 (negative EINTR.0) })

-- the record once a signal was posted to thread u
abbrev pub with_posted : Here → ℕ → ℕ → Kernel
with_posted here u sig = signalled (posted u sig here.kernel.signals) here.kernel

-- a signal is posted to thread u; where u waits and a signal can then be delivered to it, its wait is broken
abbrev pub post : Here → ℕ → ℕ → ℕ → CallDone
post here t u sig =
    let after = with_posted here u sig in
    if waits_in_vain u after
    then record { files = (t, returned 0 (here.file t)) ∷ broken_wait here u ∷ []; entered = []; kernel = woken u after; barrier = None; ended = None }
    else record (said here t 0) { kernel = after }

-- what is left to do once there is the thread u
abbrev pub send : Here → ℕ → ℕ → ℕ → CallDone
send here t u sig =
    unless here t ((refuses_signal sig, EINVAL) ∷ []) (if sig == 0 then said here t 0 else post here t u sig)

-- tkill(tid, sig), number 130
abbrev pub tkill_errors : Here → ℕ → Errors
tkill_errors here t =
    let u = int_argument here t 0 in
    (is_below_one u, EINVAL)
    ∷ (not (is_live u here.kernel.threads), ESRCH)
    ∷ []

abbrev pub tkill : Here → ℕ → CallDone
tkill here t =
    unless here t (tkill_errors here t) (send here t (int_argument here t 0) (int_argument here t 1))

-- tgkill(pid, tid, sig), number 131: the process has number 1
abbrev pub tgkill_errors : Here → ℕ → Errors
tgkill_errors here t =
    let pid = int_argument here t 0 in
    let u = int_argument here t 1 in
    (is_below_one pid || is_below_one u, EINVAL)
    ∷ (not ((pid == 1) && is_live u here.kernel.threads), ESRCH)
    ∷ []

abbrev pub tgkill : Here → ℕ → CallDone
tgkill here t =
    unless here t (tgkill_errors here t) (send here t (int_argument here t 1) (int_argument here t 2))

-- ACTIONS AND MASKS

-- a pointer is 0, or so many bytes at it can be read, or written
abbrev pub may_read : Here → ℕ → ℕ → Bool
may_read here p size = (p == 0) || are_readable here p size

abbrev pub may_write : Here → ℕ → ℕ → Bool
may_write here p size = (p == 0) || are_writable here p size

-- an action in memory (uapi asm-generic/signal.h, `struct sigaction` without a restorer): the handler, the flags, the mask
abbrev pub action_size : ℕ
action_size = 24

abbrev pub action_at : Here → ℕ → Action
action_at here at = record { at = number_at here at 8; flags = number_at here (at + 8) 8; mask = number_at here (at + 16) 8 }

abbrev pub action_written : ℕ → Action → List Write
action_written at a = double_written at a.at ∷ double_written (at + 8) a.flags ∷ double_written (at + 16) a.mask ∷ []

-- the action that is given; none where the pointer is 0
abbrev pub action_given : Here → ℕ → Option Action
action_given here p = if p == 0 then None else Some (action_at here p)

-- rt_sigaction(sig, act, old, size), number 134: the new action is read before the old one is written
abbrev pub sigaction_errors : Here → ℕ → Errors
sigaction_errors here t =
    let act = argument here t 1 in
    (not (argument here t 3 == 8), EINVAL)
    ∷ (not (may_read here act action_size), EFAULT)
    ∷ (refuses_action (int_argument here t 0) (action_given here act), EINVAL)
    ∷ (not (may_write here (argument here t 2) action_size), EFAULT)
    ∷ []

abbrev pub rt_sigaction : Here → ℕ → CallDone
rt_sigaction here t =
    let sig = int_argument here t 0 in
    let old = argument here t 2 in
    let g = here.kernel.signals in
    unless here t (sigaction_errors here t)
    (record (said here t 0) {
      entered = if old == 0 then [] else action_written old (action_of sig g);
      kernel = signalled (acted sig (action_given here (argument here t 1)) g) here.kernel;
    })

-- the mask that thread t has after a set was given; where none is given it stays
abbrev pub masked : Here → ℕ → ℕ → ℕ → Signalling
masked here t how set =
    let g = here.kernel.signals in
    if set == 0 then g else with_mask t (changed_mask how (number_at here set 8) (mask_of t g)) g

-- rt_sigprocmask(how, set, old, size), number 135
abbrev pub sigprocmask_errors : Here → ℕ → Errors
sigprocmask_errors here t =
    let set = argument here t 1 in
    (not (argument here t 3 == 8), EINVAL)
    ∷ (not (may_read here set 8), EFAULT)
    ∷ (not (set == 0) && refuses_how (int_argument here t 0), EINVAL)
    ∷ (not (may_write here (argument here t 2) 8), EFAULT)
    ∷ []

abbrev pub rt_sigprocmask : Here → ℕ → CallDone
rt_sigprocmask here t =
    let old = argument here t 2 in
    unless here t (sigprocmask_errors here t)
    (record (said here t 0) {
      entered = if old == 0 then [] else double_written old (mask_of t here.kernel.signals) ∷ [];
      kernel = signalled (masked here t (int_argument here t 0) (argument here t 1)) here.kernel;
    })

-- what is pending for a thread of the signals that it masks
abbrev pub held_back : ℕ → Signalling → ℕ
held_back t g = bit_and (pending_of t g) (mask_of t g)

-- rt_sigpending(set, size), number 136
abbrev pub sigpending_errors : Here → ℕ → Errors
sigpending_errors here t =
    (not (argument here t 1 == 8), EINVAL)
    ∷ (not (are_writable here (argument here t 0) 8), EFAULT)
    ∷ []

abbrev pub rt_sigpending : Here → ℕ → CallDone
rt_sigpending here t =
    unless here t (sigpending_errors here t)
    (record (said here t 0) { entered = double_written (argument here t 0) (held_back t here.kernel.signals) ∷ [] })

-- A HANDLER RETURNS

-- the thread goes on with the registers, the pc and the mask of the frame at its stack pointer; where the frame can't be read the
-- process is killed
abbrev pub resumed : Here → ℕ → Option (List ℕ) → CallDone
resumed here t None = killed_in_call here
resumed here t (Some words) = record {
  files = (t, frame.restored words) ∷ [];
  entered = [];
  kernel = signalled (frame.returned t (Some words) here.kernel.signals) here.kernel;
  barrier = None;
  ended = None;
}

-- rt_sigreturn(), number 139
abbrev pub rt_sigreturn : Here → ℕ → CallDone
rt_sigreturn here t = resumed here t (frame.frame_read (memory here) (here.file t))
