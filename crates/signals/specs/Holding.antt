-- What holds of the signals of a process (own, but for the masks: sigprocmask(2)).
use Rattle.std.specs.Prelude.{ℕ, ◌==◌, ◌≡◌, ◌≤◌, Bool, false, List, map, length}
use Rattle.std.specs.List.{AllByRecursion, IsDistinct}
use Rattle.mach_types.specs.Kernel.Signals.{Signalling, has_signal}
use Rattle.mach_types.specs.declared.kernel_words.TheConstants.{MOST_THREADS}
use Rattle.mach_types.specs.declared.signal_words.ThreadSignals.{ThreadSignals}
use Rattle.mach_types.specs.declared.signals.TheConstants.{LAST_SIGNAL, SIGKILL, SIGSTOP}

-- the numbers of the threads that are held
abbrev pub held : Signalling → List ℕ
held g = map (λ th. th.tid) g.threads

-- a mask without the signals that are never masked
abbrev pub IsMask : ℕ → Type 0
IsMask mask = (has_signal mask SIGKILL ≡ false) × (has_signal mask SIGSTOP ≡ false)

-- each signal has an action; a thread is held once, and not more are held than may live; no mask has SIGKILL or SIGSTOP
pub record IsSignalling (g : Signalling) : Type 0 where
  pub actions : length g.actions ≡ LAST_SIGNAL
  pub held_once : IsDistinct (λ t u. t == u) (held g)
  pub room : length g.threads ≤ MOST_THREADS
  pub masks : AllByRecursion (λ th. IsMask th.mask) g.threads

-- nothing is pending for any thread
abbrev pub AreQuiet : List ThreadSignals → Type 0
AreQuiet threads = AllByRecursion (λ th. th.pending ≡ 0) threads

-- what a table keeps, by whether it says that something may be pending: where it says that nothing may be, nothing is
pub record IsKept (may_be_pending : Bool) (g : Signalling) : Type 0 where
  pub signalling : IsSignalling g
  pub quiet : may_be_pending ≡ false → AreQuiet g.threads
