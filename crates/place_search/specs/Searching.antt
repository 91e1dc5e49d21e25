-- A search on its way (own).
use Rattle.std.specs.Prelude.{ℕ, ◌≡◌, ◌≤◌, ◌<◌, ◌≢◌, ◌+◌, Bool, false, List, length, Option, None, Contains}
use Rattle.mach_types.specs.Limits.{InRange}
use Rattle.mach_types.specs.declared.events.Choice.{Choice}
use Rattle.mach_types.specs.declared.events.Entry.{Entry}
use Rattle.elf_load.specs.Images.{IsBootable}
use Rattle.block_model.specs.Events.{refusal_of}
use Rattle.block_model.specs.Plain.{here_in_plain, plain_after, plain_over}
use Rattle.block_model.specs.Setting.{Setting, setting_of}
use Rattle.same_places.specs.Places.{IsCarried}
use Rattle.same_places.specs.Replayed.{StandAfter}
use Rattle.checkpoints.specs.Standing.{AreStanding}
use Rattle.prompt_runs.specs.Owed.{owed_after}
use Rattle.prompt_runs.specs.Prompt.{IsInTime}
use Rattle.same_places.specs.Searched.{IsOpen}
use Rattle.owed_signals.specs.Dues.{AreDuesOf}
use Rattle.place_search.specs.Graphs.{IsTrue, LeadsAlong}
use Rattle.place_search.specs.Logs.{AreSingle, log_at, logs_of, owed_at}
use Rattle.search_reductions.specs.declared.reductions.Reductions.{Reductions}
use Rattle.local_steps.specs.Resting.{LeavesAreas}
use Rattle.process.specs.declared.parts.Parts.{Parts}
use Rattle.settled_places.specs.Budgets.{spent}
use Rattle.settled_places.specs.Edges.{log_by_number}
use Rattle.settled_places.specs.Settling.{settles_of}
use Rattle.place_search.specs.Preemptions.{ArePaid, IsDue, budget_of, cost_of, kept_at}
use Rattle.place_search.specs.SettlingSteps.{IsOwedAfter, Ways, all_or_none, none_private}
use Rattle.place_search.specs.Sights.{AreSightsOf}
use Rattle.place_search.specs.Starting.{IsStart}
use Rattle.place_search.specs.Visiting.{HasVisited}
use Rattle.place_search.specs.declared.graph.Graph.{Graph}
use Rattle.place_search.specs.declared.task.Task.{Task}
use Rattle.place_search.specs.declared.trying.Searcher.{Searcher}
use Rattle.place_search.specs.declared.visiting.Reached.{Reached}

abbrev pub setting_for : Task → Setting
setting_for task = setting_of task.image.now task.limits

-- what can be searched: an image that can be booted, within limits that are in range, and one place at least
pub record IsTask (task : Task) : Type 0 where
  pub bootable : IsBootable task.limits.frames task.image.now
  pub in_range : InRange task.limits
  pub some : 1 ≤ task.most
  pub most : task.most < 4294967296

-- how the search of a task goes
abbrev pub ways_of : Task → Ways
ways_of task = record { signals = task.signals; settle = task.settle }

-- the reductions of the task
abbrev pub reductions_of : Task → Reductions
reductions_of task = record { local_steps = task.settle }

-- a search of the task, which may visit no more places than are allowed. Its checkpoints stand where they say, and its edges lead where they say; and where no thread
-- settles, one entry leads to each place
pub record IsSearching (task : Task) (x : Searcher) : Type 0 where
  pub visited : HasVisited (setting_for task) task.signals x.made.start x.visited
  pub started : IsStart (setting_for task) x.made.start
  pub code : x.made.code ≡ task.image.now.pages.items
  pub standing : AreStanding (setting_for task) x.checkpoints
  pub graph : IsTrue (setting_for task) (ways_of task) (logs_of x.visited.rows.items) x.graph
  pub few : length x.visited.rows.items < task.most
  pub single : task.settle ≡ false → AreSingle x.visited.rows.items
  pub paid : ArePaid (cost_of task.preemptions) (budget_of task.preemptions) x.visited.rows.items

-- the parts stand at a place that was visited
pub record IsReached (task : Task) (x : Searcher) (from : Reached) : Type 0 where
  pub place : from.place ≤ length x.visited.rows.items
  pub log_is : from.log.items ≡ log_at x.visited.rows.items from.place
  pub kept : from.preemptions ≡ kept_at x.visited.rows.items from.place
  pub stands : StandAfter (setting_for task) from.log.items x.made.parts
  pub there : x.moved ≡ false
  pub sees : AreSightsOf x.made.parts from.sights
  pub owed : from.owed ≡ owed_at x.visited.rows.items from.place
  pub dues : AreDuesOf x.made.parts from.owed from.dues

-- parts that stood at the place had these sights, and so much was due there
pub record HasSights (s : Setting) (from : Reached) : Type 0 where
  pub parts : Parts
  pub stands : StandAfter s from.log.items parts
  pub sights : AreSightsOf parts from.sights
  pub dues : AreDuesOf parts from.owed from.dues

-- the choices of a place that was visited are tried, at which the run goes on within the step limit; the parts stand there unless they
-- moved
pub record IsOpenAt (task : Task) (x : Searcher) (from : Reached) : Type 0 where
  pub searching : IsSearching task x
  pub place : from.place ≤ length x.visited.rows.items
  pub log_is : from.log.items ≡ log_at x.visited.rows.items from.place
  pub kept : from.preemptions ≡ kept_at x.visited.rows.items from.place
  pub goes : plain_over (plain_after (setting_for task) from.log.items) ≡ None
  pub room : length from.log.items < task.limits.steps
  pub stands : x.moved ≡ false → StandAfter (setting_for task) from.log.items x.made.parts
  pub sees : HasSights (setting_for task) from
  pub owed : IsOwedAfter (setting_for task) task.signals from.log.items from.owed

-- a choice of hart h comes in time after the log
abbrev pub ComesInTime : Setting → Ways → List Entry → ℕ → Choice → Type 0
ComesInTime s ways log h c = IsInTime (plain_after s log) (owed_after ways.signals s log) h c

-- where a choice comes in time, the same comes of it at each place that is the same. Where it is allowed too, it reaches no thread that
-- has settled, and there is an edge to a place that was visited, to which settling steps after it lead; its log costs no more than this one
-- with the choice
pub record IsTriedAt (s : Setting) (ways : Ways) (cost : Choice → ℕ) (logs : List (List Entry)) (g : Graph) (place : ℕ) (log : List Entry)
    (h : ℕ) (c : Choice) : Type 0 where
  pub carried : ComesInTime s ways log h c → IsCarried s (plain_after s log) h c
  pub calm : ComesInTime s ways log h c → refusal_of c (here_in_plain s (plain_after s log) h) ≡ None
      → LeavesAreas s (settles_of (all_or_none ways)) none_private (plain_after s log) (h, c)
  pub next : ComesInTime s ways log h c → refusal_of c (here_in_plain s (plain_after s log) h) ≡ None
      → (along : LeadsAlong s ways logs g.edges.items place log h c)
      × (spent cost (log_by_number logs along.edge.to) ≤ spent cost log + cost c)

-- the run of the log goes on within the step limit, and each choice that has to be tried was; or it is over, and that is noted. So many
-- preemptions are allowed, and some that are may have been left out
pub record IsExpanded (s : Setting) (ways : Ways) (preemptions : Option ℕ) (left_out : Bool) (logs : List (List Entry)) (g : Graph)
    (place : ℕ) (log : List Entry) : Type 0 where
  pub room : plain_over (plain_after s log) ≡ None → length log < s.limits.steps
  pub tried : (h : ℕ) (c : Choice) → IsOpen s logs log h c → IsDue preemptions left_out log c
      → IsTriedAt s ways (cost_of preemptions) logs g place log h c
  pub over : plain_over (plain_after s log) ≢ None → Contains g.ended.items place

-- a choice of a hart at the place was tried, where it has to be
abbrev pub IsTriedWhereDue : Task → Searcher → Reached → ℕ → Choice → Type 0
IsTriedWhereDue task x from h c =
    IsDue task.preemptions x.visited.left_out from.log.items c
    → IsTriedAt (setting_for task) (ways_of task) (cost_of task.preemptions) (logs_of x.visited.rows.items) x.graph from.place from.log.items h c

-- the place with this number is expanded
abbrev pub IsExpandedAt : Task → Searcher → ℕ → List Entry → Type 0
IsExpandedAt task x place log =
    IsExpanded (setting_for task) (ways_of task) task.preemptions x.visited.left_out (logs_of x.visited.rows.items) x.graph place log
