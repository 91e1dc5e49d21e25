-- Beside another process no thread ever gets an area, since rseq(2) isn't there.
use Rattle.block_model.proofs.Common.{◌≡◌, ◌≢◌, ℕ, cond, [], None, ap, ◌∙◌, subst, CallDone, Choice, Done, Here, Kernel, Kind, List, Write, argument, call_number, clear_of, clears, clone_child_cleartid, done_of, entry_in, had_child, has_flag, next_number, without_area, anyone}
use Rattle.block_model.proofs.CallEffects.{Answers, Bears, CallDeed, Exits, Registers, TableStep, Unregisters, Wakes}
use Rattle.block_model.proofs.CallEffects.EachCall.{deed_called}
use Rattle.block_model.proofs.EventEffects.{Calls, EventDeed, deed_of}
use Rattle.block_model.proofs.OwnEvents.{areas_cleared, areas_requeued}
use Rattle.block_model.proofs.Runs.{choice_in}

module _ (here : Here) (beside : here.beside ≢ None) (none : here.kernel.areas ≡ []) where
  module _ (t number : ℕ) where
    none_stepped : {entered : List Write} {k : Kernel} → TableStep here t number entered k → k.areas ≡ []
    none_stepped (Registers area alone first writes) = absurd (beside alone)
    none_stepped Unregisters = ap (without_area t) none
    none_stepped step = none

    none_called : {c : CallDone} → CallDeed here t number c → c.kernel.areas ≡ []
    none_called (Answers n entered k no_error writes step) = none_stepped step
    none_called (Wakes n more at to listens small) = areas_requeued n more at to listens here.kernel ∙ none
    none_called (Exits more) =
        let n : ℕ = cond (clears here t) 1 0 in
        ap (without_area t) (areas_requeued n 0 (clear_of t here.kernel.threads) 0 anyone here.kernel ∙ none)
    none_called (Bears entered writes free its_number) =
        let asked = has_flag (argument here t 0) clone_child_cleartid in
        areas_cleared asked (next_number here.kernel) (argument here t 4) (had_child t here.kernel) ∙ none
    none_called deed = none

  none_deed : {tid : ℕ} {k : Kind} {d : Done} → EventDeed here tid k d → d.kernel.areas ≡ []
  none_deed (Calls t e next calls outside) = none_called t (call_number here t) (deed_called here t)
  none_deed deed = none

  pub no_area_after : (c : Choice) → (done_of c here).kernel.areas ≡ []
  no_area_after c =
      subst (λ d. (done_of d here).kernel.areas ≡ []) (choice_in c here) (none_deed (deed_of here (entry_in c here).kind (entry_in c here)))
