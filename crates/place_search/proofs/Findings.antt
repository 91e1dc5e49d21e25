-- What was found, where a search ends.
use Rattle.std.proofs.Common.{◌≡◌, ◌≢◌, ℕ, cond, ◌+◌, ◌<◌, ◌≤◌, true, List, [], ◌∷◌, length, get_or, Option, Some, refl, sym, ap, ◌∙◌, subst, arith, All, Contains}
use Rattle.std.proofs.Math.ListN.{get_or-map}
use Rattle.std.proofs.lemmas.List.{length-map}
use Rattle.std.proofs.lemmas.List.Elements.{All-contains}
use Rattle.std.proofs.lemmas.List.Sums.{sum_by-cons}
use Rattle.mach_types.specs.Events.{choice_with, is_preempt}
use Rattle.mach_types.specs.declared.events.Kind.{Kind}
use Rattle.mach_types.specs.declared.events.Kind.TheVariants as kinds
use Rattle.mach_types.specs.declared.events.Entry.{Entry}
use Rattle.mach_types.specs.declared.limits.End.{End}
use Rattle.block_model.specs.Deciding.{over_at}
use Rattle.block_model.specs.History.{console}
use Rattle.block_model.specs.Plain.{Plain, plain_over}
use Rattle.block_model.specs.Run.{IsBlockRun}
use Rattle.block_model.specs.Setting.{Setting, with_steps}
unfoldable use Rattle.block_model.specs.Deciding.{history}
unfoldable use Rattle.block_model.specs.Plain.{plain_after}
use Rattle.page_map.specs.Map.{Map}
use Rattle.same_places.specs.Closed.{HasOutcome, after_logs}
use Rattle.same_places.specs.FreeRuns.{IsFreeRun}
use Rattle.found_outcomes.specs.Complete.{IsComplete, IsCompleteWithin, preemptions_of}
use Rattle.found_outcomes.specs.Found.{AreDifferent, HasBeenFound, IsEndFound, IsShown}
use Rattle.found_outcomes.specs.Endless.{IsEndless}
use Rattle.found_outcomes.specs.Hopeless.{AreHopeless}
use Rattle.found_outcomes.specs.Search.{IsDepth, IsSearchOf}
use Rattle.found_outcomes.specs.declared.findings.Closing.{Closing}
use Rattle.found_outcomes.specs.declared.findings.Closing.TheVariants.{Complete, Deep, Memory, Places, Within}
use Rattle.found_outcomes.specs.declared.findings.Findings.{Findings}
use Rattle.found_outcomes.specs.declared.findings.HopelessPlaces.{HopelessPlaces}
use Rattle.found_outcomes.specs.declared.findings.OutcomeFound.{OutcomeFound}
use Rattle.settled_places.specs.Budgets.{preempt_cost, spent}
use Rattle.place_search.specs.Logs.{logs_of}
use Rattle.place_search.specs.Preemptions.{ArePaid, budget_of, cost_of, kept_of}
use Rattle.place_search.specs.declared.row.Row.{Row}
use Rattle.place_search.specs.Visiting.{AreEndsFound, HasVisited}
use Rattle.place_search.specs.declared.endings.Endings.{Endings}
use Rattle.place_search.specs.declared.visited.Visited.{Visited}
use Rattle.place_search.specs.Searching.{IsSearching, reductions_of, setting_for, ways_of}
use Rattle.place_search.specs.SettlingSteps.{all_or_none, none_private}
use Rattle.place_search.specs.declared.task.Task.{Task}
use Rattle.place_search.specs.declared.trying.Searcher.{Searcher}
use Rattle.settled_places.specs.SettledSearch.{IsSettledSearch}
use Rattle.found_outcomes.specs.Reduced.{IsSearchBy}
use Rattle.place_search.proofs.Logs.{has_first, logs_length, single_logs}
use Rattle.place_search.proofs.Steps.{all_visited}
use Rattle.prompt_runs.specs.Prompt.{IsSpokenOf}
use Rattle.search_reductions.specs.declared.signals.Signals.{Signals}

-- a preemption costs 1, and nothing else does
kind_cost : (k : Kind) (e : Entry) → preempt_cost (choice_with k e) ≡ cond (is_preempt k) 1 0
kind_cost kinds.Exec e = refl
kind_cost kinds.Drain e = refl
kind_cost kinds.Take e = refl
kind_cost kinds.Done e = refl
kind_cost kinds.Preempt e = refl
kind_cost kinds.Run e = refl
kind_cost kinds.Signal e = refl

counted : (log : List Entry) → spent preempt_cost log ≡ preemptions_of log
counted [] = refl
counted (e ∷ log) = ap (λ (n : ℕ). n + spent preempt_cost log) (kind_cost e.kind e) ∙ ap (λ (n : ℕ). cond (is_preempt e.kind) 1 0 + n) (counted log)
    ∙ sym (sum_by-cons (λ (x : Entry). cond (is_preempt x.kind) 1 0) e log)

-- no log has more than the budget
few_in : (p : ℕ) (rows : List Row) → ArePaid preempt_cost p rows → All (λ (log : List Entry). preemptions_of log ≤ p) (logs_of rows)
few_in p rows paid k d lt =
    let logs = logs_of rows in
    let cost : spent preempt_cost (get_or logs k d) ≡ get_or (kept_of rows) k (spent preempt_cost d) = sym (get_or-map (spent preempt_cost) logs k d) ∙ ap (λ (ns : List ℕ). get_or ns k (spent preempt_cost d)) paid.kept in
    let size : length (kept_of rows) ≡ length logs = ap (λ (ns : List ℕ). length ns) (sym paid.kept) ∙ length-map logs (spent preempt_cost) in
    let few : get_or (kept_of rows) k (spent preempt_cost d) ≤ p = paid.few k (spent preempt_cost d) (omega (arith, lt)) in
    let same = counted (get_or logs k d) in
    omega arith

-- an outcome of the places that were visited was found
outcome_found : (s : Setting) (logs : List (List Entry)) (os : List OutcomeFound) (e : End) (out : List ℕ) → All (IsEndFound s os) logs → HasOutcome (after_logs s logs) e out → HasBeenFound os e out
outcome_found s logs os e out ends has =
    let log = has.member.0 in
    let is = has.member.2 in
    subst (HasBeenFound os e) (ap (λ (p : Plain). p.kernel.console) is ∙ has.console_is)
    (All-contains (IsEndFound s os) logs log ends has.member.1 e (ap plain_over is ∙ has.over))

pub complete_by : (s : Setting) (signals : Signals) (logs : List (List Entry)) (os : List OutcomeFound) → All (IsEndFound s os) logs
    → ((n : ℕ) (log : List Entry) (e : End) → n ≤ 1000000 → IsBlockRun (with_steps n s) log → IsSpokenOf signals s log
    → over_at (with_steps n s) (history (with_steps n s) log) ≡ Some e → HasOutcome (after_logs s logs) e (console (with_steps n s) (history (with_steps n s) log)))
    → ((log : List Entry) (e : End) → IsFreeRun s log → IsSpokenOf signals s log → plain_over (plain_after s log) ≡ Some e → HasOutcome (after_logs s logs) e (plain_after s log).kernel.console)
    → IsComplete s signals os
complete_by s signals logs os ends block free = record {
  block_runs = λ n log e few run spoken over. outcome_found s logs os e (console (with_steps n s) (history (with_steps n s) log)) ends (block n log e few run spoken over);
  free_runs = λ log e run spoken over. outcome_found s logs os e (plain_after s log).kernel.console ends (free log e run spoken over);
}

pub complete_within_by : (s : Setting) (signals : Signals) (logs : List (List Entry)) (p : ℕ) (os : List OutcomeFound) → All (IsEndFound s os) logs
    → ((n : ℕ) (log : List Entry) (e : End) → n ≤ 1000000 → IsBlockRun (with_steps n s) log → IsSpokenOf signals s log → spent preempt_cost log ≤ p → over_at (with_steps n s) (history (with_steps n s) log) ≡ Some e
    → HasOutcome (after_logs s logs) e (console (with_steps n s) (history (with_steps n s) log)))
    → ((log : List Entry) (e : End) → IsFreeRun s log → IsSpokenOf signals s log → spent preempt_cost log ≤ p → plain_over (plain_after s log) ≡ Some e → HasOutcome (after_logs s logs) e (plain_after s log).kernel.console)
    → IsCompleteWithin s signals p os
complete_within_by s signals logs p os ends block free = record {
  block_runs = λ n log e few run spoken cheap over.
      outcome_found s logs os e (console (with_steps n s) (history (with_steps n s) log)) ends (block n log e few run spoken (subst (λ (k : ℕ). k ≤ p) (sym (counted log)) cheap) over);
  free_runs = λ log e run spoken cheap over. outcome_found s logs os e (plain_after s log).kernel.console ends (free log e run spoken (subst (λ (k : ℕ). k ≤ p) (sym (counted log)) cheap) over);
}

-- the findings are what was visited
pub record AreFindings (found : Findings) (v : Visited) (told : Endings) (why : Closing) : Type 0 where
  pub outcomes : found.outcomes ≡ v.outcomes
  pub places : found.places ≡ length v.rows.items + 1
  pub deepest : found.deepest ≡ v.deepest
  pub endless : found.endless ≡ told.endless
  pub hopeless : found.hopeless ≡ told.hopeless
  pub closing : found.closing ≡ why

-- a search that met this closing, and ends for this why: for want of memory, or as it met
pub search_of : (s : Setting) (signals : Signals) (start : Map) (most : ℕ) (v : Visited) (met why : Closing) (told : Endings) (found : Findings) → AreFindings found v told why → HasVisited s signals start v
    → length v.rows.items < most → (why ≢ Memory → why ≡ met) → Contains (logs_of v.rows.items) told.hopeless.nearest.items
    → (why ≡ Complete → met ≡ Complete → AreHopeless s signals (logs_of v.rows.items) told.hopeless.number told.hopeless.nearest.items) → (why ≡ Complete → met ≡ Complete → IsEndless s signals told.endless)
    → (met ≡ Complete → IsComplete s signals v.outcomes.items) → (met ≡ Places → length v.rows.items + 1 ≡ most) → (met ≡ Deep → v.deep ≡ true)
    → (met ≢ Memory → AreEndsFound s v) → (preemptions : Option ℕ) → ArePaid (cost_of preemptions) (budget_of preemptions) v.rows.items
    → ((p : ℕ) → met ≡ Within p → (preemptions ≡ Some p) × (p < 256) × IsCompleteWithin s signals p v.outcomes.items) → IsSearchOf s signals most preemptions found
search_of s signals start most v met why told found are h few closed nearest hopes endless complete full deep ends preemptions paid within =
    let items : v.outcomes.items ≡ found.outcomes.items = sym (ap (λ os. os.items) are.outcomes) in
    let size = logs_length v.rows.items in
    let places = are.places in
    let logs = logs_of v.rows.items in
    let as_met : (end : Closing) → end ≢ Memory → found.closing ≡ end → met ≡ end = λ end other is.
    let is_why : why ≡ end = sym are.closing ∙ is in
    sym (closed (λ memory. other (sym is_why ∙ memory))) ∙ is_why in
    record {
      shown = subst (All (IsShown s signals)) items h.shown;
      different = subst (λ (os : List OutcomeFound). AreDifferent os) items h.different;
      complete = λ is. subst (IsComplete s signals) items (complete (as_met Complete (λ no. absurd cc) is));
      within = λ p is. let x = within p (as_met (Within p) (λ no. absurd cc) is) in (x.0, x.1, subst (IsCompleteWithin s signals p) items x.2);
      logs = logs;
      few = λ p is. few_in p v.rows.items (subst (λ (o : Option ℕ). ArePaid (cost_of o) (budget_of o) v.rows.items) is paid);
      visited = record {
        runs = h.runs;
        spoken = h.spoken;
        counted = size ∙ sym are.places;
        within = subst (λ (n : ℕ). All (λ (log : List Entry). length log ≤ n) logs) (sym are.deepest) h.within;
        deepest = subst (IsDepth logs) (sym are.deepest) h.deepest;
        outcomes = subst (All (λ (o : OutcomeFound). Contains logs o.log.items)) items h.among;
      };
      noted = λ not. subst (λ (os : List OutcomeFound). All (IsEndFound s os) logs) items
          (ends (λ is. not (are.closing ∙ (closed (λ memory. not (are.closing ∙ memory)) ∙ is))));
      allowed = omega arith;
      all_places = λ is. places ∙ full (as_met Places (λ no. absurd cc) is);
      nearest = subst (λ (x : HopelessPlaces). Contains logs x.nearest.items) (sym are.hopeless) nearest;
      hopeless = λ is.
          subst (λ (x : HopelessPlaces). AreHopeless s signals logs x.number x.nearest.items) (sym are.hopeless)
          (hopes (sym are.closing ∙ is) (as_met Complete (λ no. absurd cc) is));
      endless = λ is. subst (IsEndless s signals) (sym are.endless) (endless (sym are.closing ∙ is) (as_met Complete (λ no. absurd cc) is));
      at_limit = λ is. let was = h.at_limit (deep (as_met Deep (λ no. absurd cc) is)) in (was.log, was.visited, was.at_limit);
    }

-- and by its reductions
pub search_by_of : (task : Task) (x : Searcher) (met why : Closing) (told : Endings) (found : Findings) → AreFindings found x.visited told why → IsSearching task x → (why ≢ Memory → why ≡ met)
    → Contains (logs_of x.visited.rows.items) told.hopeless.nearest.items
    → (why ≡ Complete → met ≡ Complete → AreHopeless (setting_for task) task.signals (logs_of x.visited.rows.items) told.hopeless.number told.hopeless.nearest.items)
    → (why ≡ Complete → met ≡ Complete → IsEndless (setting_for task) task.signals told.endless)
    → (met ≡ Complete → IsComplete (setting_for task) task.signals x.visited.outcomes.items) → (met ≡ Places → length x.visited.rows.items + 1 ≡ task.most) → (met ≡ Deep → x.visited.deep ≡ true)
    → (met ≢ Memory → AreEndsFound (setting_for task) x.visited)
    → (met ≡ Complete → IsSettledSearch (setting_for task) task.signals (all_or_none (ways_of task)) none_private (logs_of x.visited.rows.items))
    → ((p : ℕ) → met ≡ Within p → (task.preemptions ≡ Some p) × (p < 256) × IsCompleteWithin (setting_for task) task.signals p x.visited.outcomes.items)
    → IsSearchBy (setting_for task) task.signals (reductions_of task) task.most task.preemptions found
unfolding search_of
search_by_of task x met why told found are searching closed nearest hopes endless complete full deep ends searched within =
    let rows = x.visited.rows.items in
    record {
      search = search_of (setting_for task) task.signals x.made.start task.most x.visited met why told found are searching.visited searching.few closed nearest hopes endless complete full deep ends task.preemptions searching.paid within;
      each_event = λ off. single_logs rows searching.visited.parents (searching.single off);
      all_places = λ off is.
          let as_met : met ≡ Complete = sym (closed (λ memory. let bad : Complete ≡ Memory = sym is ∙ are.closing ∙ memory in absurd cc)) ∙ sym are.closing ∙ is in
          all_visited (setting_for task) (ways_of task) (logs_of rows) off (searched as_met);
    }
