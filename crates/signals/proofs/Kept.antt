-- What holds of a table's lists is kept where they become those of a step.
use Rattle.std.proofs.Common.{◌≡◌, ℕ, Bool, true, false, cond, if◌then◌else◌, List, map, length, Some, None, sym, ap, ◌∙◌, subst}
use Rattle.std.proofs.lemmas.List.{length-map}
use Rattle.arrayvec.proofs.ArrayVecLemmas.{items-with_items}
use Rattle.arrayvec.specs.ArrayVec.{ArrayVec, with_items}
use Rattle.mach_types.specs.Kernel.SignalFrames.{handler_mask, has_flag}
use Rattle.mach_types.specs.Kernel.Signals.{Signalling, joined, maskable, only}
use Rattle.mach_types.specs.declared.signals.TheConstants.{SA_NODEFER}
use Rattle.mach_types.specs.declared.signal_words.Action.{Action}
use Rattle.mach_types.specs.declared.signal_words.ThreadSignals.{ThreadSignals}
use Rattle.signals.proofs.Masks.{maskable-is_mask}
use Rattle.signals.specs.Holding.{IsKept, IsMask}

abbrev pub lists : List Action → List ThreadSignals → Signalling
lists actions threads = record { actions = actions; threads = threads }

pub same_threads : (b : Bool) (actions : List Action) (later threads : List ThreadSignals) → later ≡ threads → IsKept b (lists actions threads)
    → IsKept b (lists actions later)
same_threads b actions later threads e kept = subst (λ (ths : List ThreadSignals). IsKept b (lists actions ths)) (sym e) kept

pub same_lists : (b : Bool) (actions acts : List Action) (later threads : List ThreadSignals) → actions ≡ acts → later ≡ threads → IsKept b (lists acts threads)
    → IsKept b (lists actions later)
same_lists b actions acts later threads d e kept =
    same_threads b actions later threads e (subst (λ (acts : List Action). IsKept b (lists acts threads)) (sym d) kept)

-- a write through the slice that maps each entry leaves the mapped list
pub mapped : (own : ArrayVec ThreadSignals) (f : ThreadSignals → ThreadSignals) (later : List ThreadSignals) → later ≡ map f own.items
    → (with_items own later).items ≡ map f own.items
mapped own f later e = items-with_items own later (ap length e ∙ length-map own.items f) ∙ e

-- a mask that is maskable
pub is_mask_of : (mask signals : ℕ) → mask ≡ maskable signals → IsMask mask
is_mask_of mask signals e = subst IsMask (sym e) (maskable-is_mask signals)

-- the mask with which a handler runs
pub is_handler_mask : (mask s old : ℕ) (a : Action) → mask ≡ handler_mask s a old → IsMask mask
is_handler_mask mask s old a e = is_mask_of mask (joined (joined old a.mask) (if has_flag a.flags SA_NODEFER then 0 else only s)) e

-- the mask that was given where it isn't refused
pub given_mask : (refused : Bool) (mask changed : ℕ) → Some mask ≡ cond refused None (Some changed) → mask ≡ changed
given_mask true mask changed e = cc
given_mask false mask changed e = cc
