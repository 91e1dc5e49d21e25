-- The signals of a process: what is done when one comes, which are masked, and which are pending (sigaction(2),
-- sigprocmask(2), tkill(2), signal(7)). A signal is a number from 1 to 31, and a set of signals a number in which bit s - 1
-- stands for signal s (sigset_t).
use Rattle.std.specs.Prelude.{ℕ, ◌+◌, ◌-◌, ◌/◌, ◌%◌, ◌^◌, ◌==◌, ◌&&◌, ◌||◌, Bool, not, List, [], ◌∷◌, ◌++◌, map, filter, find, get_or, set, replicate, if◌then◌else◌, Option, Some, None, is_some, nat_lt, bit_and, bit_or}
use Rattle.std.specs.Option.{option_map_or}
use Rattle.std.specs.List.{list_any, range_with_len}
use Rattle.mach_types.specs.declared.signal_words.Action.{Action}
use Rattle.mach_types.specs.declared.signal_words.Fault.{Fault}
use Rattle.mach_types.specs.declared.signal_words.ThreadSignals.{ThreadSignals}
use Rattle.mach_types.specs.declared.signals.TheConstants.{LAST_SIGNAL, SIGKILL, SIGSTOP, SIGCHLD, SIGCONT, SIGURG, SIGWINCH, SIG_DFL, SIG_IGN, SIG_BLOCK, SIG_UNBLOCK, SIG_SETMASK}

-- the actions of the signals 1 to 31 in their order, and for each live thread its mask and what is pending
pub record Signalling : Type 0 where
  pub actions : List Action
  pub threads : List ThreadSignals

-- the set of one signal
abbrev pub only : ℕ → ℕ
only s = 2 ^ (s - 1)

-- whether a signal is in a set
abbrev pub has_signal : ℕ → ℕ → Bool
has_signal signals s = (signals / only s) % 2 == 1

-- the signals of two sets, and those of a set that aren't in another one
abbrev pub joined : ℕ → ℕ → ℕ
joined signals others = bit_or signals others

abbrev pub less : ℕ → ℕ → ℕ
less signals others = bit_and signals (2 ^ 64 - 1 - others)

-- a set without those signals that are never masked (sigprocmask(2): SIGKILL and SIGSTOP)
abbrev pub maskable : ℕ → ℕ
maskable signals = less signals (only SIGKILL + only SIGSTOP)

-- all signals, the lowest first
unfoldable pub all_signals : List ℕ
all_signals = range_with_len 1 LAST_SIGNAL

-- ACTIONS

-- no handler, no flags, nothing masked
abbrev pub default_action : Action
default_action = record { at = SIG_DFL; flags = 0; mask = 0 }

-- what is done when signal s comes
abbrev pub action_of : ℕ → Signalling → Action
action_of s g = get_or g.actions (s - 1) default_action

-- whether the default of a signal is to ignore it (signal(7); for SIGCONT own, as nothing stops)
abbrev pub is_ignored_by_default : ℕ → Bool
is_ignored_by_default s = s == SIGCHLD || s == SIGCONT || s == SIGURG || s == SIGWINCH

-- whether an action of signal s ignores it
abbrev pub is_ignored : ℕ → Action → Bool
is_ignored s a = a.at == SIG_IGN || (a.at == SIG_DFL && is_ignored_by_default s)

-- whether an action is a handler
abbrev pub is_handler : Action → Bool
is_handler a = not (a.at == SIG_DFL || a.at == SIG_IGN)

-- THREADS

-- at its start a thread has a mask, and nothing is pending
abbrev pub new_thread : ℕ → ℕ → ThreadSignals
new_thread t mask = record { tid = t; mask = mask; pending = 0; fault = None }

abbrev pub is_of : ℕ → ThreadSignals → Bool
is_of t th = th.tid == t

abbrev pub is_held : ℕ → Signalling → Bool
is_held t g = list_any (is_of t) g.threads

-- what a thread masks, and what is pending for it; nothing where it isn't held
abbrev pub mask_of : ℕ → Signalling → ℕ
mask_of t g = option_map_or (λ th. th.mask) (find (is_of t) g.threads) 0

abbrev pub pending_of : ℕ → Signalling → ℕ
pending_of t g = option_map_or (λ th. th.pending) (find (is_of t) g.threads) 0

-- what the newest fault of a thread says; and the same where it is of signal s
abbrev pub newest_fault : ℕ → Signalling → Option Fault
newest_fault t g = option_map_or (λ th. th.fault) (find (is_of t) g.threads) None

abbrev pub fault_by : ℕ → Option Fault → Option Fault
fault_by s None = None
fault_by s (Some f) = if f.signal == s then Some f else None

-- of what the pending signal s tells a thread: of its fault, or of no fault, where it was posted to it
abbrev pub fault_of : ℕ → ℕ → Signalling → Option Fault
fault_of t s g = fault_by s (newest_fault t g)

-- a signal that is pending and isn't masked can be delivered (signal(7)); the lowest one is next (own)
abbrev pub is_deliverable : ℕ → Signalling → ℕ → Bool
is_deliverable t g s = has_signal (pending_of t g) s && not (has_signal (mask_of t g) s)

abbrev pub next_for : ℕ → Signalling → Option ℕ
next_for t g = find (is_deliverable t g) all_signals

-- STEPS

-- at the start there is thread 1, which masks nothing, nothing is pending, and each action is the default
abbrev pub start_signalling : Signalling
start_signalling = record { actions = replicate LAST_SIGNAL default_action; threads = new_thread 1 0 ∷ [] }

-- clone(2), signal(7): a new thread has its parent's mask, and nothing is pending
abbrev pub with_thread : ℕ → ℕ → Signalling → Signalling
with_thread parent t g = record g { threads = g.threads ++ new_thread t (mask_of parent g) ∷ [] }

-- exit(2): a thread that ended is forgotten
abbrev pub forget : ℕ → Signalling → Signalling
forget t g = record g { threads = filter (λ th. not (is_of t th)) g.threads }

-- a thread has another mask
abbrev pub mask_if : ℕ → ℕ → ThreadSignals → ThreadSignals
mask_if t mask th = if is_of t th then record th { mask = mask } else th

abbrev pub with_mask : ℕ → ℕ → Signalling → Signalling
with_mask t mask g = record g { threads = map (mask_if t mask) g.threads }

-- a signal becomes pending for a thread, once
abbrev pub post_if : ℕ → ℕ → ThreadSignals → ThreadSignals
post_if t s th = if is_of t th then record th { pending = joined th.pending (only s) } else th

abbrev pub with_pending : ℕ → ℕ → Signalling → Signalling
with_pending t s g = record g { threads = map (post_if t s) g.threads }

-- a thread faults: the signal becomes pending for it, and it keeps what the fault says in place of what an earlier one said (own)
abbrev pub fault_if : ℕ → Fault → ThreadSignals → ThreadSignals
fault_if t f th = if is_of t th then record th { pending = joined th.pending (only f.signal); fault = Some f } else th

abbrev pub with_fault : ℕ → Fault → Signalling → Signalling
with_fault t f g = record g { threads = map (fault_if t f) g.threads }

-- a signal isn't pending any more for a thread, and for all threads; nor is what its fault said kept
abbrev pub without_fault : ℕ → Option Fault → Option Fault
without_fault s None = None
without_fault s (Some f) = if f.signal == s then None else Some f

abbrev pub without_signal : ℕ → ThreadSignals → ThreadSignals
without_signal s th = record th { pending = less th.pending (only s); fault = without_fault s th.fault }

abbrev pub take_if : ℕ → ℕ → ThreadSignals → ThreadSignals
take_if t s th = if is_of t th then without_signal s th else th

abbrev pub without_pending : ℕ → ℕ → Signalling → Signalling
without_pending t s g = record g { threads = map (take_if t s) g.threads }

abbrev pub dropped : ℕ → Signalling → Signalling
dropped s g = record g { threads = map (without_signal s) g.threads }

-- tkill(2): a signal is posted to a thread; where its action ignores it, it is dropped (signal(7))
abbrev pub posted : ℕ → ℕ → Signalling → Signalling
posted t s g = if is_ignored s (action_of s g) then g else with_pending t s g

-- another action; one that ignores its signal drops it for all threads (sigaction(2), POSIX "Signal Actions")
abbrev pub set_action : ℕ → Action → Signalling → Signalling
set_action s new g = record g { actions = set g.actions (s - 1) new }

abbrev pub with_action : ℕ → Action → Signalling → Signalling
with_action s new g = if is_ignored s new then dropped s (set_action s new g) else set_action s new g

-- CALLS

-- sigaction(2), EINVAL: no signal has the number, or the action of SIGKILL or SIGSTOP would change
abbrev pub refuses_action : ℕ → Option Action → Bool
refuses_action s new = s == 0 || nat_lt LAST_SIGNAL s || (is_some new && (s == SIGKILL || s == SIGSTOP))

-- sigaction(2): the new action, if there is one, is set
abbrev pub acted : ℕ → Option Action → Signalling → Signalling
acted s None g = g
acted s (Some new) g = with_action s new g

-- sigprocmask(2), EINVAL: `how` isn't one of three
abbrev pub refuses_how : ℕ → Bool
refuses_how how = not (how == SIG_BLOCK || how == SIG_UNBLOCK || how == SIG_SETMASK)

-- sigprocmask(2): signals are added to a mask, taken from it, or are the mask
abbrev pub changed_mask : ℕ → ℕ → ℕ → ℕ
changed_mask how signals mask =
    maskable (if how == SIG_BLOCK then joined mask signals else (if how == SIG_UNBLOCK then less mask signals else signals))
