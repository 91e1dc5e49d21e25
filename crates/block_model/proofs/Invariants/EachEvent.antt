-- Each event is fit where it is not refused: what it can be, one by one.
use Rattle.block_model.proofs.Common.{◌≡◌, ◌∙◌, None, refl, sym, ap, arith, Done, Entry, Here, IsGoodHere, Kind, choice_with, false≢true, interruption_here, refusal_done_by, refusal_of, refusal_preempt_by}
use Rattle.mach_types.specs.declared.events.Kind.TheVariants as kind
use Rattle.block_model.proofs.EventEffects.{Calls, Drains, EventDeed, Executes, Faults, Handles, Preempts, Restarts, Returns, RunKills, Runs, SignalKills}
use Rattle.block_model.proofs.Invariants.Calls.Conditions.{apart_none}
use Rattle.block_model.proofs.Invariants.Events.{apart_interrupted, apart_own_interrupted, fit_begun, fit_drained, fit_handled, fit_left, fit_returned, fit_still, fit_taken, run_ready}
use Rattle.block_model.proofs.Invariants.Instructions.{fit_call, fit_executed, fit_fault}
use Rattle.block_model.proofs.PlaceInvariant.{IsFit}

pub fit_deed : (here : Here) (x : Entry) {k : Kind} {d : Done} → EventDeed here x.tid.0 k d → IsGoodHere here
    → refusal_of (choice_with k x) here ≡ None → IsFit here d
fit_deed here x (Faults t signal its handler) good free = fit_fault here t signal good
fit_deed here x (Calls t e next calls outside) good free = fit_call here t e good next calls outside free
fit_deed here x (Executes t e next) good free = fit_executed here t e good next free
fit_deed here x (Drains w ws waits) good free = fit_drained here w ws good waits
fit_deed here x (Restarts t at) good free =
    fit_still here _ good refl refl (omega arith) refl refl (apart_own_interrupted here t (interruption_here here t) good at) refl
fit_deed here x (Returns t at) good free = fit_returned here t good at (ap (refusal_done_by here) (sym at) ∙ free)
fit_deed here x (Preempts kind.Preempt t leaves at) good free =
    fit_left here t good at (ap (refusal_preempt_by here) (sym at) ∙ free)
fit_deed here x (Preempts k t leaves at) good free = absurd (false≢true leaves)
fit_deed here x Runs good free =
    let may = run_ready here x.tid.0 free in
    fit_begun here x.tid.0 (interruption_here here x.tid.0) good may.0 may.1
fit_deed here x RunKills good free =
    let may = run_ready here x.tid.0 free in
    fit_still here _ good refl refl (omega arith) refl refl
    (apart_interrupted here x.tid.0 (interruption_here here x.tid.0) good may.1) refl
fit_deed here x (Handles t signal at) good free = fit_handled here t signal (interruption_here here t) good at
fit_deed here x (SignalKills t signal killer at) good free = fit_taken here t signal killer (interruption_here here t) good at
fit_deed here x deed good free = fit_still here _ good refl refl (omega arith) refl refl (apart_none here) refl
