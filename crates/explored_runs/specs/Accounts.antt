-- What is told of the runs of an exploration (own): each different outcome once, in the order in which they were found, and what was
-- tried in all runs.
use Rattle.std.specs.Prelude.{ℕ, ◌≤◌, ◌+◌, ◌*◌, ◌==◌, ◌&&◌, Bool, true, false, List, [], ◌∷◌, ◌++◌, Option, Some, None, All, IfSome, length, bytes_eq, nat_le, if◌then◌else◌, replicate, slice_index, slice_set}
use Rattle.std.specs.List.{list_any}
use Rattle.mach_types.specs.declared.limits.End.{End}
use Rattle.mach_types.specs.declared.limits.End.TheVariants.{Exit, Killed, Stuck, Limit, Unended}
use Rattle.drawn_machine.specs.Overtaken.{no_stores, stores_and}
use Rattle.drawn_machine.specs.Waits.{no_waits}
use Rattle.explored_runs.specs.declared.explored.Explored.{Explored}
use Rattle.explored_runs.specs.declared.explored.Found.{Found}
use Rattle.explored_runs.specs.declared.explored.Others.{Others}
use Rattle.explored_runs.specs.declared.explored.TheConstants.{MOST_FOUND}
use Rattle.explored_runs.specs.declared.made.Made.{Made}
use Rattle.explored_runs.specs.declared.tallies.Tally.{Tally}
use Rattle.explored_runs.specs.declared.tallies.Tried.{Tried}

-- what is told so far: the outcomes that were found, the runs that came to none of these, how many runs there were, and what was tried
pub record Account : Type 0 where
  pub found : List Found
  pub others : Option Others
  pub runs : ℕ
  pub tried : Tried

-- before the first run
abbrev pub nothing : Account
nothing = record {
  found = [];
  others = None;
  runs = 0;
  tried = record { harts = replicate 9 0; switches = 0; preemptions = 0; inside = 0; waits = no_waits; stores = no_stores };
}

-- whether two ends are one
abbrev pub same_end : End → End → Bool
same_end (Exit a) (Exit b) = a == b
same_end (Killed a) (Killed b) = a == b
same_end Stuck Stuck = true
same_end Limit Limit = true
same_end Unended Unended = true
same_end _ _ = false

-- whether a run came to an outcome that was found: the console that is kept and the end are the same
abbrev pub came_to : Made → Found → Bool
came_to m f = bytes_eq f.console m.console && same_end f.end m.end

abbrev pub is_known : Made → List Found → Bool
is_known m found = list_any (came_to m) found

-- the outcomes, where the one that a run came to counts one run more
abbrev pub counted : Made → List Found → List Found
counted m [] = []
counted m (f ∷ found) = if came_to m f then record f { runs = f.runs + 1 } ∷ found else f ∷ counted m found

-- a new outcome, with the run that came to it first
abbrev pub first_of : Made → Found
first_of m = record { seed = m.seed; runs = 1; steps = m.steps; policy = m.policy; console = m.console; end = m.end }

-- whether as many outcomes were found as are told apart
abbrev pub is_full : List Found → Bool
is_full found = nat_le MOST_FOUND (length found)

abbrev pub found_after : Made → List Found → List Found
found_after m found =
    if is_known m found then counted m found
    else if is_full found then found
    else found ++ first_of m ∷ []

-- one run more that came to none of the outcomes that are told apart
abbrev pub with_other : Made → Option Others → Others
with_other m None = record { runs = 1; seed = m.seed }
with_other m (Some others) = record others { runs = others.runs + 1 }

abbrev pub others_after : Made → List Found → Option Others → Option Others
others_after m found others = if is_known m found then others else if is_full found then Some (with_other m others) else others

-- counts added to the sums at their places
abbrev pub added : List ℕ → List ℕ → List ℕ
added [] counts = []
added (sum ∷ sums) [] = sum ∷ sums
added (sum ∷ sums) (count ∷ counts) = (sum + count) ∷ added sums counts

-- how many runs had threads on exactly so many harts, with one run more; and the sums of the switches, of the preemptions, of those
-- inside sequences, and of the stores that waited so long; and all stores that were executed or overtaken in one of the runs
abbrev pub tried_after : Tally → Tried → Tried
tried_after t tried = record {
  harts = slice_set tried.harts t.harts (slice_index tried.harts t.harts + 1);
  switches = tried.switches + t.switches;
  preemptions = tried.preemptions + t.preemptions;
  inside = tried.inside + t.inside;
  waits = added tried.waits t.waits;
  stores = stores_and t.stores tried.stores;
}

-- what is told after one run more
abbrev pub told : Account → Made → Account
told a m = record {
  found = found_after m a.found;
  others = others_after m a.found a.others;
  runs = a.runs + 1;
  tried = tried_after m.tally a.tried;
}

-- no count of outcomes or of harts is above the number of runs, and a run has at most 1,000,000 steps
pub record IsWithin (a : Account) : Type 0 where
  pub found : All (λ (f : Found). f.runs ≤ a.runs) a.found
  pub others : IfSome a.others (λ (o : Others). o.runs ≤ a.runs)
  pub harts : All (λ (runs : ℕ). runs ≤ a.runs) a.tried.harts
  pub switches : a.tried.switches ≤ 1000000 * a.runs
  pub preemptions : a.tried.preemptions ≤ 1000000 * a.runs
  pub inside : a.tried.inside ≤ 1000000 * a.runs
  pub waits : All (λ (stores : ℕ). stores ≤ 1000000 * a.runs) a.tried.waits

-- whether as many outcomes were found as were asked for
abbrev pub has_enough : Option ℕ → Account → Bool
has_enough None a = false
has_enough (Some until) a = nat_le until (length a.found)

-- what an exploration holds
abbrev pub account_of : Explored → Account
account_of e = record { found = e.found.items; others = e.others; runs = e.runs; tried = e.tried }
