-- What was tried in a run (own): on how many harts threads ran, how often another hart went on, how often a thread was preempted, and
-- inside a restartable sequence, how many stores waited how long, and which stores loads overtook.
use Rattle.std.specs.Prelude.{ℕ, zero, suc, ◌≤◌, ◌+◌, ◌==◌, ◌&&◌, Bool, List, [], ◌∷◌, All, count_by, if◌then◌else◌}
use Rattle.std.specs.List.{list_any}
use Rattle.mach_types.specs.Events.{is_preempt, is_run}
use Rattle.mach_types.specs.declared.events.Entry.{Entry}
use Rattle.block_model.specs.Deciding.{history}
use Rattle.block_model.specs.Setting.{Setting}
use Rattle.drawn_machine.specs.Overtaken.{stores_of}
use Rattle.drawn_machine.specs.Preemptions.{left_inside}
use Rattle.drawn_machine.specs.Waits.{wait_counts}
use Rattle.drawn_machine.specs.declared.store_pcs.StorePcs.{StorePcs}
use Rattle.explored_runs.specs.declared.tallies.Tally.{Tally}

-- whether a thread began to run on hart h
abbrev pub ran_on : ℕ → List Entry → Bool
ran_on h log = list_any (λ (e : Entry). is_run e.kind && (e.hart.0 == h)) log

-- on how many of the first harts, so many, a thread ran
abbrev pub harts_in : List Entry → ℕ → ℕ
harts_in log zero = 0
harts_in log (suc h) = harts_in log h + (if ran_on h log then 1 else 0)

-- how many entries are of another hart than the entry before them, where hart h made the entry before the first
abbrev pub switches_from : ℕ → List Entry → ℕ
switches_from h [] = 0
switches_from h (e ∷ log) = (if e.hart.0 == h then 0 else 1) + switches_from e.hart.0 log

-- in a whole log
abbrev pub switches_in : List Entry → ℕ
switches_in [] = 0
switches_in (e ∷ log) = switches_from e.hart.0 log

abbrev pub preemptions_in : List Entry → ℕ
preemptions_in log = count_by (λ (e : Entry). is_preempt e.kind) log

-- as of a run on at most 8 harts of at most 1,000,000 steps
pub record IsShort (t : Tally) : Type 0 where
  pub harts : t.harts ≤ 8
  pub switches : t.switches ≤ 1000000
  pub preemptions : t.preemptions ≤ 1000000
  pub inside : t.inside ≤ 1000000
  pub waits : All (λ (stores : ℕ). stores ≤ 1000000) t.waits

-- what was tried in a run on so many harts, where so often a thread left its hart inside a sequence, so many stores waited so long, and
-- these stores were executed and overtaken
abbrev pub tally_with : ℕ → List Entry → ℕ → List ℕ → StorePcs → Tally
tally_with harts log inside waits stores = record {
  harts = harts_in log harts;
  switches = switches_in log;
  preemptions = preemptions_in log;
  inside = inside;
  waits = waits;
  stores = stores;
}

-- what was tried in a run
abbrev pub tally_of : Setting → List Entry → Tally
tally_of s log =
    let whole = history s log in
    tally_with s.limits.harts log (left_inside s whole) (wait_counts whole) (stores_of s whole)
