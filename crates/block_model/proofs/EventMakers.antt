-- What follows of what an event is: one of the kernel executes no instruction and no store, and lets no
-- store that waits enter memory; and one that interrupts no thread writes nothing, where it is of the
-- kernel.
use Rattle.block_model.proofs.Common.{◌≡◌, ℕ, [], Bool, true, false, None, refl, sym, ◌∙◌, Choice, Done, Here, Kind, done_of, false≢true, is_preempt, nature_of, Maker}
use Rattle.mach_types.specs.Events.{is_interrupting, kind_of, maker_of}
use Rattle.mach_types.specs.declared.events.Maker.TheVariants.{Thread, Buffer, Kernel}
use Rattle.block_model.proofs.EventEffects.{CallKills, Calls, Drains, EventDeed, Executes, FaultKills, Faults, Handles, Preempts, Restarts, RunKills, Runs, SignalKills, Skips, begun_by, deed_chosen}

abbrev pub is_by_kernel : Maker → Bool
is_by_kernel Thread = false
is_by_kernel Buffer = false
is_by_kernel Kernel = true

pub record IsOfKernel (d : Done) : Type 0 where
  pub instructions : d.instructions ≡ 0
  pub executed : d.executed ≡ []
  pub drained : d.drained ≡ 0

kernel_deed : (here : Here) (tid : ℕ) {k : Kind} {d : Done} → EventDeed here tid k d
    → is_by_kernel (nature_of k).maker ≡ true → IsOfKernel d
kernel_deed here tid Skips is = absurd (false≢true is)
kernel_deed here tid (Faults t signal its handler) is = absurd (false≢true is)
kernel_deed here tid (FaultKills t signal its) is = absurd (false≢true is)
kernel_deed here tid (CallKills t e next calls) is = absurd (false≢true is)
kernel_deed here tid (Calls t e next calls outside) is = absurd (false≢true is)
kernel_deed here tid (Executes t e next) is = absurd (false≢true is)
kernel_deed here tid (Drains w ws waits) is = absurd (false≢true is)
kernel_deed here tid deed is = record { instructions = refl; executed = refl; drained = refl }

-- whether it may interrupt a thread
abbrev pub may_interrupt : Kind → Bool
may_interrupt k = is_interrupting (nature_of k).interruption true true

quiet_deed : (here : Here) (tid : ℕ) {k : Kind} {d : Done} → EventDeed here tid k d → may_interrupt k ≡ false
    → d.interrupted ≡ None
quiet_deed here tid (Restarts t at) never = absurd (false≢true (sym never))
quiet_deed here tid Runs never = absurd (false≢true (sym never))
quiet_deed here tid RunKills never = absurd (false≢true (sym never))
quiet_deed here tid (Handles t signal at) never = absurd (false≢true (sym never))
quiet_deed here tid (SignalKills t signal killer at) never = absurd (false≢true (sym never))
quiet_deed here tid deed never = refl

silent_deed : (here : Here) (tid : ℕ) {k : Kind} {d : Done} → EventDeed here tid k d
    → is_by_kernel (nature_of k).maker ≡ true → may_interrupt k ≡ false
    → d.entered ≡ []
silent_deed here tid (CallKills t e next calls) is never = absurd (false≢true is)
silent_deed here tid (Calls t e next calls outside) is never = absurd (false≢true is)
silent_deed here tid (Executes t e next) is never = absurd (false≢true is)
silent_deed here tid (Drains w ws waits) is never = absurd (false≢true is)
silent_deed here tid (Restarts t at) is never = absurd (false≢true (sym never))
silent_deed here tid Runs is never = absurd (false≢true (sym never))
silent_deed here tid RunKills is never = absurd (false≢true (sym never))
silent_deed here tid (Handles t signal at) is never = absurd (false≢true (sym never))
silent_deed here tid (SignalKills t signal killer at) is never = absurd (false≢true (sym never))
silent_deed here tid deed is never = refl

-- and keeps the record, where no thread leaves by it either
still_deed : (here : Here) (tid : ℕ) {k : Kind} {d : Done} → EventDeed here tid k d
    → is_by_kernel (nature_of k).maker ≡ true → may_interrupt k ≡ false
    → is_preempt k ≡ false → d.kernel ≡ here.kernel
still_deed here tid (Faults t signal its handler) is never stays = absurd (false≢true is)
still_deed here tid (CallKills t e next calls) is never stays = absurd (false≢true is)
still_deed here tid (Calls t e next calls outside) is never stays = absurd (false≢true is)
still_deed here tid (Preempts k t leaves at) is never stays = absurd (false≢true (sym stays ∙ leaves))
still_deed here tid Runs is never stays = absurd (false≢true (sym never))
still_deed here tid (Handles t signal at) is never stays = absurd (false≢true (sym never))
still_deed here tid (SignalKills t signal killer at) is never stays = absurd (false≢true (sym never))
still_deed here tid deed is never stays = refl

pub keeps_record : (here : Here) (c : Choice) → is_by_kernel (maker_of c) ≡ true
    → may_interrupt (kind_of c) ≡ false → is_preempt (kind_of c) ≡ false
    → (done_of c here).kernel ≡ here.kernel
keeps_record here c is never stays = still_deed here (begun_by c) (deed_chosen here c) is never stays

pub interrupts_none : (here : Here) (c : Choice) → may_interrupt (kind_of c) ≡ false
    → (done_of c here).interrupted ≡ None
interrupts_none here c never = quiet_deed here (begun_by c) (deed_chosen here c) never

pub writes_none : (here : Here) (c : Choice) → is_by_kernel (maker_of c) ≡ true
    → may_interrupt (kind_of c) ≡ false → (done_of c here).entered ≡ []
writes_none here c is never = silent_deed here (begun_by c) (deed_chosen here c) is never

pub of_kernel : (here : Here) (c : Choice) → is_by_kernel (maker_of c) ≡ true → IsOfKernel (done_of c here)
of_kernel here c is = kernel_deed here (begun_by c) (deed_chosen here c) is
