-- A run of any length is a run by choices, and ends as a place that was stored.
use Rattle.std.proofs.Common.{◌≡◌, ℕ, ◌+◌, ◌-◌, ◌≤◌, arith, true, Bool, List, [], ◌∷◌, Some, Ok, Contains, fold, refl, ap, ◌∙◌, subst}
use Rattle.std.proofs.lemmas.Bool.{false≢true}
use Rattle.mach_types.specs.Events.{choice_of}
use Rattle.mach_types.specs.declared.events.Choice.{Choice}
use Rattle.mach_types.specs.declared.events.Entry.{Entry}
use Rattle.mach_types.specs.declared.limits.End.{End}
use Rattle.block_model.specs.Deciding.{decide_in, history, over_at}
use Rattle.block_model.specs.History.{console}
use Rattle.block_model.specs.Plain.{Plain, here_in_plain, plain_next, plain_over, plain_start}
use Rattle.block_model.specs.Run.{IsBlockRun}
use Rattle.block_model.specs.Setting.{Seen, Setting, with_steps}
use Rattle.block_model.proofs.Laws.{same_state, standing, start_plain, start_run}
unfoldable use Rattle.block_model.specs.Plain.{plain_after}
use Rattle.local_steps.proofs.Notions.{EndsSo}
use Rattle.local_steps.specs.Runs.{MayCome, choices, total}
use Rattle.local_steps.proofs.BlockRuns.{link_from, start_good}
use Rattle.local_steps.proofs.Tallies.{AllPass}
use Rattle.prompt_runs.specs.Owed.{none_owed, owed_next}
use Rattle.prompt_runs.specs.Prompt.{AreInTime, IsSpokenOf}
use Rattle.search_reductions.specs.declared.signals.Signals.{Signals}
use Rattle.prompt_runs.proofs.InTime.{IsFitting}
use Rattle.same_places.specs.Closed.{HasOutcome, after_logs}
use Rattle.same_places.specs.FreeRuns.{IsFreeFrom, IsFreeRun}
use Rattle.same_places.specs.Places.{alone}
use Rattle.same_places.proofs.Laws.{allowed}
use Rattle.block_model.specs.Standing.{IsStanding}
use Rattle.settled_places.specs.Budgets.{IsSettledSearchWithin, spent}
use Rattle.settled_places.proofs.Closed.{all_stored, ends_in, starts}
use Rattle.settled_places.proofs.Events.{IsWell}
use Rattle.settled_places.proofs.OwedSignals.{run_tally}

-- an entry that is decided where no event counts may come
pub may_come : (s : Setting) (p : Plain) (h : ℕ) (c : Choice) (e : Entry) → decide_in 0 (plain_over p) c (here_in_plain s p h) ≡ Ok e → MayCome s p (h, c)
may_come s p h c e decided =
    let may = allowed 0 (plain_over p) c (here_in_plain s p h) e decided in
    record { goes = may.goes; lt = may.lt; free = may.free }

ends_from : (s : Setting) (log : List Entry) (p : Plain) (e : End) → IsFreeFrom s p log → plain_over (fold (plain_next s) p log) ≡ Some e
    → EndsSo s p (choices log) e (fold (plain_next s) p log).kernel.console
ends_from s [] p e free over = (over, refl)
ends_from s (x ∷ log) p e free over =
    (may_come s p x.hart.0 (choice_of x) x free.0, ends_from s log (plain_next s p x) e free.1 over)

pub start_well : (s : Setting) → IsWell s (plain_start s)
start_well s =
    let v : Seen = record { setting = s; seed = 0; log = [] } in
    record { good = start_good s; stands = subst (λ (p : Plain). IsStanding (alone s p)) (start_plain s) (standing v (start_run s)) }

-- a log that is spoken of, and can be paid for, passes
pub pass_from : (s : Setting) (signals : Signals) (private : ℕ → ℕ → Bool) (cost : Choice → ℕ) (log : List Entry) (left : ℕ) (owed : ℕ → Bool) (m : Plain) → total cost (choices log) ≤ left
    → AreInTime signals s m owed log → AllPass s (run_tally s signals private cost) (left, owed) m (choices log)
pass_from s signals private cost [] left owed m cheap in_time = tt
pass_from s signals private cost (x ∷ log) left owed m cheap in_time = (
  (omega arith, in_time.0),
  pass_from s signals private cost log (left - cost (choice_of x)) (owed_next signals s m owed x.hart.0 (choice_of x)) (plain_next s m x) (omega arith) in_time.1,
)

pub none_fits : (s : Setting) (signals : Signals) (m : Plain) → IsFitting signals s none_owed m
none_fits s signals m h is = absurd (false≢true is)

module _ (s : Setting) (signals : Signals) (threads : ℕ → Bool) (private : ℕ → ℕ → Bool) (cost : Choice → ℕ) (k : ℕ) (logs : List (List Entry))
    (found : IsSettledSearchWithin s signals threads private cost k logs) where
  -- how a run by choices ends
  ends : (log : List (ℕ × Choice)) (e : End) (out : List ℕ) → AllPass s (run_tally s signals private cost) (k, none_owed) (plain_start s) log → EndsSo s (plain_start s) log e out
      → HasOutcome (after_logs s logs) e out
  ends = ends_in s signals threads private cost k (Contains logs) (all_stored s signals threads private cost k logs found) (k, none_owed) (plain_start s) (start_good s)
      (none_fits s signals (plain_start s)) (starts s signals threads private cost k logs found (start_well s))

  pub free_ends : (log : List Entry) (e : End) → IsFreeRun s log → IsSpokenOf signals s log → spent cost log ≤ k → plain_over (plain_after s log) ≡ Some e
      → HasOutcome (after_logs s logs) e (plain_after s log).kernel.console
  unfolding plain_after
  free_ends log e free spoken cheap over =
      ends (choices log) e (plain_after s log).kernel.console (pass_from s signals private cost log k none_owed (plain_start s) cheap spoken) (ends_from s log (plain_start s) e free over)

  pub block_ends : (n : ℕ) (log : List Entry) (e : End) → IsBlockRun (with_steps n s) log → IsSpokenOf signals s log → spent cost log ≤ k
      → over_at (with_steps n s) (history (with_steps n s) log) ≡ Some e → HasOutcome (after_logs s logs) e (console (with_steps n s) (history (with_steps n s) log))
  block_ends n log e run spoken cheap over =
      let t = with_steps n s in
      let v : Seen = record { setting = t; seed = 0; log = log } in
      let same = same_state v run in
      ends (choices log) e (console t (history t log)) (pass_from s signals private cost log k none_owed (plain_start s) cheap spoken)
      (subst (λ (m : Plain). EndsSo s m (choices log) e (console t (history t log))) (start_plain t)
      (link_from s n [] log e (console t (history t log)) run (ap plain_over same ∙ over) (ap (λ (p : Plain). p.kernel.console) same)))
