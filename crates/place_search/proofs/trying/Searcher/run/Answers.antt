use Rattle.std.proofs.Common.{◌≡◌, ◌≤◌, ◌+◌, ℕ, List, Option, None, Some, Bool, inl, sym, subst, length, ap, ◌∙◌, arith}
use Rattle.place_search.specs.Searching.{IsSearching, IsTask, setting_for, ways_of}
use Rattle.place_search.specs.Stops.{closing_of}
use Rattle.place_search.specs.declared.stop.Stop.TheVariants.{Memory}
use Rattle.mach_types.specs.declared.events.Choice.{Choice}
use Rattle.mach_types.specs.declared.events.Entry.{Entry}
use Rattle.settled_places.specs.Budgets.{IsSettledSearchWithin, preempt_cost}
use Rattle.settled_places.specs.SettledSearch.{IsSettledSearch}
use Rattle.place_search.specs.Graphs.{IsWhole}
use Rattle.place_search.specs.Logs.{logs_of}
use Rattle.place_search.specs.Preemptions.{IsDue, budget_of, cost_of}
use Rattle.place_search.specs.SettlingSteps.{all_or_none, none_private}
use Rattle.place_search.specs.declared.task.Task.{Task}
use Rattle.place_search.specs.declared.trying.Searcher.{Searcher}
use Rattle.place_search.proofs.Preemptions.{all_due}
use Rattle.place_search.proofs.Steps.{AreExpanded, expanded_next, next_there, searched_by, searched_within, whole_by}
use Rattle.place_search.proofs.Stops.{stop_is}
use Rattle.place_search.proofs.trying.Searcher.run.Goals as goal

pub places-preserved : goal.places-preserved
places-preserved g c =
    let before = c.places.self.visited in
    let after = c.expand.new.self.visited in
    let inv = c.places.invariant in
    let there : c.places.place ≤ length before.rows.items = omega arith in
    record {
      searching = c.in-Ok.ensures.searching;
      ends = c.in-Ok.ensures.ends (λ is. absurd cc) inv.ends;
      place = next_there before after c.places.place c.in-Ok.ensures.more there;
      expanded = expanded_next c.args.task.now c.places.self c.expand.new.self c.places.place c.in-Ok.ensures.more c.in-Ok.ensures.graph there inv.expanded c.in-Ok.ensures.expanded;
    }

-- where their number isn't limited
due_without : (limit : Option ℕ) (left_out : Bool) → limit ≡ None → (log : List Entry) (c : Choice) → IsDue limit left_out log c
due_without limit left_out none log c = subst (λ (o : Option ℕ). IsDue o left_out log c) (sym none) (all_due left_out log c)

-- at the end of the places
module _ (task : Task) (x : Searcher) (place : ℕ) (is : IsTask task) (searching : IsSearching task x) (all : length x.visited.rows.items + 1 ≤ place) (each : AreExpanded task x place) where
  pub all_searched : ((log : List Entry) (c : Choice) → IsDue task.preemptions x.visited.left_out log c) → IsSettledSearch (setting_for task) task.signals (all_or_none (ways_of task)) none_private (logs_of x.visited.rows.items)
  all_searched = searched_by task x place is.in_range.most_steps searching.visited all each

  pub all_whole : ((log : List Entry) (c : Choice) → IsDue task.preemptions x.visited.left_out log c) → IsWhole (setting_for task) (ways_of task) (logs_of x.visited.rows.items) x.graph
  all_whole = whole_by task x place is.in_range.most_steps searching.visited all each

  pub all_within : (p : ℕ) → task.preemptions ≡ Some p → IsSettledSearchWithin (setting_for task) task.signals (all_or_none (ways_of task)) none_private preempt_cost p (logs_of x.visited.rows.items)
  all_within p few =
      subst (λ (o : Option ℕ). IsSettledSearchWithin (setting_for task) task.signals (all_or_none (ways_of task)) none_private (cost_of o) (budget_of o) (logs_of x.visited.rows.items)) few
      (searched_within task x place is.in_range.most_steps searching.visited all each)

pub returns-in-Err-clause-ends : goal.returns-in-Err-clause-ends
returns-in-Err-clause-ends g c = λ not. c.in-Err.ensures.ends (λ is. not (c.closing.ensures ∙ ap closing_of (stop_is c.in-Err.stop Memory is))) c.places.invariant.ends

pub returns-in-Some-clause-within : goal.returns-in-Some-clause-within
returns-in-Some-clause-within g c = λ p is.
    let few : c.args.task.now.preemptions ≡ Some p = cc (c.in-Some.is, c.as_byte.ensures.same, is) in
    let same : c.as_byte.result ≡ p = cc is in
    (few, omega (arith, same, c.as_byte.ensures.byte), all_within c.args.task.now c.places.self c.places.place c.requires.task c.places.invariant.searching (omega arith) (c.places.invariant.expanded c.if-self.false) p few)

pub returns-in-Some-2-clause-searched : goal.returns-in-Some-2-clause-searched
returns-in-Some-2-clause-searched g c = λ is.
    all_searched c.args.task.now c.places.self c.places.place c.requires.task c.places.invariant.searching (omega arith) (c.places.invariant.expanded c.if-self.false) (λ log d. inl c.if-self-2.false)

pub returns-in-Some-2-clause-whole : goal.returns-in-Some-2-clause-whole
returns-in-Some-2-clause-whole g c = λ is.
    all_whole c.args.task.now c.places.self c.places.place c.requires.task c.places.invariant.searching (omega arith) (c.places.invariant.expanded c.if-self.false) (λ log d. inl c.if-self-2.false)

pub returns-in-None-clause-searched : goal.returns-in-None-clause-searched
returns-in-None-clause-searched g c = λ is.
    all_searched c.args.task.now c.places.self c.places.place c.requires.task c.places.invariant.searching (omega arith) (c.places.invariant.expanded c.if-self.false)
    (due_without c.args.task.now.preemptions c.places.self.visited.left_out c.in-None.is)

pub returns-in-None-clause-whole : goal.returns-in-None-clause-whole
returns-in-None-clause-whole g c = λ is.
    all_whole c.args.task.now c.places.self c.places.place c.requires.task c.places.invariant.searching (omega arith) (c.places.invariant.expanded c.if-self.false)
    (due_without c.args.task.now.preemptions c.places.self.visited.left_out c.in-None.is)
