-- The signals in the kernel's tables, and what the calls that set them come to once nothing refuses them.
use Rattle.std.specs.Prelude.{ℕ, ◌==◌, Bool, [], ◌∷◌, if◌then◌else◌, Option}
use Rattle.mach_types.specs.Bytes.{each_byte}
use Rattle.mach_types.specs.Kernel.Signals.{Signalling, acted, action_of, changed_mask, mask_of, with_mask}
use Rattle.mach_types.specs.declared.signal_words.Action.{Action}
use Rattle.block_model.specs.Here.{Here}
use Rattle.block_model.specs.Kernel.{signalled}
use Rattle.block_model.specs.Tables.{AreSignalsOfLive}
use Rattle.block_model.specs.Calls.Answers.{CallDone, argument, double_written, int_argument, said}
use Rattle.block_model.specs.Calls.Signals.{action_size, action_written, masked}
use Rattle.sys_calls.specs.declared.kernel.Kernel.{Kernel}

-- the threads of which a mask and pending signals are kept are the live ones, in the same order
abbrev pub HoldSignals : Kernel → Type 0
HoldSignals k = AreSignalsOfLive k.threads.threads k.signals

-- whether the bytes of an action pass a test
unfoldable pub pass_action : (ℕ → Bool) → ℕ → Bool
pass_action test at = each_byte test at action_size

-- rt_sigaction(2): the old action is written where it is asked for, and the new one is set where one is given
abbrev pub sigaction_with : Here → ℕ → Option Action → CallDone
sigaction_with h t new =
    let old = argument h t 2 in
    let sig = int_argument h t 0 in
    record (said h t 0) {
      entered = if old == 0 then [] else action_written old (action_of sig h.kernel.signals);
      kernel = signalled (acted sig new h.kernel.signals) h.kernel;
    }

-- the signals once thread t was given a set, which is this number at an address; where the address is 0 its mask stays
abbrev pub mask_changed : ℕ → ℕ → ℕ → ℕ → Signalling → Signalling
mask_changed t how at set g = if at == 0 then g else with_mask t (changed_mask how set (mask_of t g)) g

-- rt_sigprocmask(2): the old mask is written where it is asked for, and the new one is set where a set is given
abbrev pub sigprocmask_done : Here → ℕ → CallDone
sigprocmask_done h t =
    let old = argument h t 2 in
    record (said h t 0) {
      entered = if old == 0 then [] else double_written old (mask_of t h.kernel.signals) ∷ [];
      kernel = signalled (masked h t (int_argument h t 0) (argument h t 1)) h.kernel;
    }
