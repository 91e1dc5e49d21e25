-- The kernel's tables as lists of words, and how a run has ended (own).
use Rattle.std.specs.Prelude.{ℕ, List, [], ◌∷◌, ◌++◌, Option}
use Rattle.mach_types.specs.declared.barriers.Registered.{Registered}
use Rattle.mach_types.specs.declared.limits.End.{End}
use Rattle.mach_types.specs.declared.limits.End.TheVariants.{Exit, Killed, Stuck, Limit, Unended}
use Rattle.mach_types.specs.declared.sequences.Area.{Area}
use Rattle.mach_types.specs.declared.signal_words.Action.{Action}
use Rattle.mach_types.specs.declared.signal_words.Fault.{Fault}
use Rattle.mach_types.specs.declared.signal_words.ThreadSignals.{ThreadSignals}
use Rattle.mach_types.specs.declared.threads.Saved.{Saved}
use Rattle.mach_types.specs.declared.threads.ThreadState.{ThreadState}
use Rattle.mach_types.specs.declared.threads.ThreadState.TheVariants.{Ready, Running, Waiting}
use Rattle.mach_types.specs.Kernel.Scheduling.{Scheduling}
use Rattle.mach_types.specs.Kernel.Signals.{Signalling}
use Rattle.mach_types.specs.Kernel.Threads.{Thread}
use Rattle.kernel_threads.specs.Table.{Table}
use Rattle.place_keys.specs.Differences.{sparse_words}
use Rattle.place_keys.specs.Words.{of_bool, of_each, of_list, of_option, word}

abbrev pub state_words : ThreadState → List ℕ
state_words Ready = 0 ∷ []
state_words (Running h) = 1 ∷ h.0 ∷ []
state_words (Waiting at) = 2 ∷ at ∷ []

abbrev pub thread_words : Thread → List ℕ
thread_words th = word th.tid ++ (state_words th.state ++ word th.clear_at)

abbrev pub file_words : Saved → List ℕ
file_words x = sparse_words x.file.x ++ word x.pc

abbrev pub saved_words : ℕ × Option Saved → List ℕ
saved_words pair = word pair.0 ++ of_option file_words pair.1

abbrev pub threads_words : Table → List ℕ
threads_words t =
    of_list thread_words t.threads.live ++ (of_list saved_words t.saved ++ (word t.threads.given
    ++ of_list word t.threads.waiters))

abbrev pub pair_words : ℕ × ℕ → List ℕ
pair_words pair = pair.0 ∷ pair.1 ∷ []

abbrev pub ready_words : Scheduling → List ℕ
ready_words s = of_list word s.order ++ of_list pair_words s.affinities

abbrev pub action_words : Action → List ℕ
action_words a = a.at ∷ a.flags ∷ a.mask ∷ []

abbrev pub fault_words : Fault → List ℕ
fault_words f = f.signal ∷ f.code ∷ f.address ∷ []

abbrev pub mask_words : ThreadSignals → List ℕ
mask_words th = th.tid ∷ th.mask ∷ th.pending ∷ of_option fault_words th.fault

abbrev pub signals_words : Signalling → List ℕ
signals_words g = sparse_words (of_each action_words g.actions) ++ of_list mask_words g.threads

abbrev pub area_words : ℕ × Area → List ℕ
area_words pair = pair.0 ∷ pair.1.at ∷ pair.1.sig ∷ []

abbrev pub registered_words : Registered → List ℕ
registered_words r = of_bool r.global ++ (of_bool r.private ++ of_bool r.rseq)

abbrev pub end_words : End → List ℕ
end_words (Exit n) = 0 ∷ n ∷ []
end_words (Killed n) = 1 ∷ n ∷ []
end_words Stuck = 2 ∷ 0 ∷ []
end_words Limit = 3 ∷ 0 ∷ []
end_words Unended = 4 ∷ 0 ∷ []
