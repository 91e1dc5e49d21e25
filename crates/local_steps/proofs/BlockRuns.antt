-- The outcomes of an exploration by local steps are all that block runs have.
use Rattle.local_steps.proofs.Common.{Bool, ◌≡◌, ℕ, List, [], ◌∷◌, ◌++◌, refl, sym, ap, ◌∙◌, subst, append-nil, append_assoc, Some, Choice, Done, Entry, Plain, Setting, apply, choice_of, done_of, here_in_plain, here_of, plain_over, plain_start, refusal_of}
use Rattle.mach_types.specs.declared.events.Choice.TheVariants as asked
use Rattle.mach_types.specs.declared.limits.End.{End}
use Rattle.local_steps.specs.Explorations.{AreAll, IsExplored, budget_of}
use Rattle.local_steps.proofs.Notions.{EndsSo}
use Rattle.local_steps.specs.Runs.{IsReached, MayCome, choices, next_of}
use Rattle.block_model.specs.Plain.{plain_after}
use Rattle.block_model.specs.Run.{IsBlockRun}
use Rattle.block_model.specs.Setting.{with_steps}
use Rattle.block_model.proofs.Laws.{good_at, next_event, run_before, start_run, start_plain, IsGood}
use Rattle.local_steps.proofs.Tallies.{all_paid, budget_is}
use Rattle.local_steps.proofs.WithAreas.{complete_with_areas}
use Rattle.block_model.proofs.Swaps.Logs.{last_decided, seen}
use Rattle.block_model.specs.Standing.{IsSound}

module _ (s : Setting) (n : ℕ) where
  abbrev limited : Setting
  limited = with_steps n s

  -- no rule reads the step limit
  same_refused : (c : Choice) (m : Plain) (h : ℕ) → refusal_of c (here_in_plain limited m h) ≡ refusal_of c (here_in_plain s m h)
  same_refused asked.Exec m h = refl
  same_refused asked.Drain m h = refl
  same_refused asked.Take m h = refl
  same_refused asked.Done m h = refl
  same_refused asked.Preempt m h = refl
  same_refused (asked.Run t) m h = refl
  same_refused asked.Signal m h = refl

  same_done : (c : Choice) (m : Plain) (h : ℕ) → done_of c (here_in_plain limited m h) ≡ done_of c (here_in_plain s m h)
  same_done asked.Exec m h = refl
  same_done asked.Drain m h = refl
  same_done asked.Take m h = refl
  same_done asked.Done m h = refl
  same_done asked.Preempt m h = refl
  same_done (asked.Run t) m h = refl
  same_done asked.Signal m h = refl

  pub link_from : (log more : List Entry) (e : End) (console : List ℕ) → IsBlockRun limited (log ++ more) → plain_over (plain_after limited (log ++ more)) ≡ Some e
      → (plain_after limited (log ++ more)).kernel.console ≡ console → EndsSo s (plain_after limited log) (choices more) e console
  link_from log [] e console run over prints = (
    ap (λ (l : List Entry). plain_over (plain_after limited l)) (sym (append-nil log)) ∙ over,
    ap (λ (l : List Entry). (plain_after limited l).kernel.console) (sym (append-nil log)) ∙ prints,
  )
  link_from log (x ∷ more) e console run over prints =
      let m = plain_after limited log in
      let h = x.hart.0 in
      let c = choice_of x in
      let joined = append_assoc log (x ∷ []) more in
      let longer : IsBlockRun limited ((log ++ x ∷ []) ++ more) = subst (IsBlockRun limited) (sym joined) run in
      let its = run_before limited (log ++ x ∷ []) more longer in
      let step = next_event (seen limited log) x (done_of c (here_of (seen limited log) h)) (run_before limited log (x ∷ []) its) (last_decided limited log x its) refl in
      let next : plain_after limited (log ++ x ∷ []) ≡ next_of s m (h, c) = step.next ∙ ap (λ (d : Done). apply h d m) (same_done c m h) in
      let may : MayCome s m (h, c) = record { goes = step.goes; lt = step.lt; free = sym (same_refused c m h) ∙ step.free } in
      let rest = link_from (log ++ x ∷ []) more e console longer (ap (λ (l : List Entry). plain_over (plain_after limited l)) joined ∙ over)
      (ap (λ (l : List Entry). (plain_after limited l).kernel.console) joined ∙ prints) in
      (may, subst (λ (y : Plain). EndsSo s y (choices more) e console) next rest)

  -- the machine is good whatever the step limit
  good_unlimited : (m : Plain) → IsGood limited m → IsGood s m
  good_unlimited m good = record {
    within = good.within;
    few = good.few;
    idle = good.idle;
    given = good.given;
    busy = good.busy;
    empty = good.empty;
    awaited = good.awaited;
    restart = good.restart;
    kernel = let k = good.kernel in let x : IsSound s m.kernel = record { tables = k.tables; allowed = k.allowed; console = k.console } in x;
  }

pub reached_good : (s : Setting) (m : Plain) → IsReached s m → IsGood s m
reached_good s m x = subst (IsGood s) x.is (good_unlimited s x.steps (plain_after (with_steps x.steps s) x.log) (good_at (seen (with_steps x.steps s) x.log) x.run))

pub start_good : (s : Setting) → IsGood s (plain_start s)
start_good s = reached_good s (plain_start s) (record { steps = 0; log = []; run = start_run (with_steps 0 s); is = start_plain (with_steps 0 s) })

pub explored_is_all : (s : Setting) (threads : ℕ → Type 0) (private : ℕ → ℕ → Bool) (cost : Choice → ℕ) (k : ℕ) (IsSeen : ℕ → Plain → Type 0) (IsOutcome : End → List ℕ → Type 0)
    → IsExplored s threads private cost k IsSeen IsOutcome → AreAll s cost k IsOutcome
explored_is_all s threads private cost k IsSeen IsOutcome x e console y =
    let limited = with_steps y.steps s in
    let start = start_plain limited in
    let ends = subst (λ (m : Plain). EndsSo s m (choices y.log) e console) start (link_from s y.steps [] y.log e console y.run y.over y.prints) in
    complete_with_areas s threads private (budget_of cost) (λ j m. Unit {0}) (budget_is s cost private) IsSeen IsOutcome x.closed (λ j m is. reached_good s m (x.reached j m is)) k (plain_start s)
    x.start.0 (choices y.log) e console (start_good s) tt x.start.1 x.start.2 (all_paid s cost (choices y.log) k (plain_start s) y.cheap) ends
