-- Where runs end, told of a search whose choices were all tried (own).
use Rattle.found_outcomes.specs.Endless.{IsEndless}
use Rattle.found_outcomes.specs.Hopeless.{AreHopeless}
use Rattle.settled_places.specs.SettledSearch.{IsSettledSearch}
use Rattle.place_search.specs.Graphs.{IsWhole}
use Rattle.place_search.specs.Logs.{logs_of}
use Rattle.place_search.specs.Searching.{setting_for, ways_of}
use Rattle.place_search.specs.SettlingSteps.{all_or_none, none_private}
use Rattle.place_search.specs.declared.endings.Endings.{Endings}
use Rattle.place_search.specs.declared.task.Task.{Task}
use Rattle.place_search.specs.declared.trying.Searcher.{Searcher}

-- whether some run executes instructions without end, and which places are hopeless
pub record AreTold (task : Task) (x : Searcher) (told : Endings) : Type 0 where
  pub endless : IsEndless (setting_for task) task.signals told.endless
  pub hopeless : AreHopeless (setting_for task) task.signals (logs_of x.visited.rows.items) told.hopeless.number
      told.hopeless.nearest.items

-- it is so, where each choice at each place that was visited was tried
abbrev pub AreEndings : Task → Searcher → Endings → Type 0
AreEndings task x told =
    IsSettledSearch (setting_for task) task.signals (all_or_none (ways_of task)) none_private (logs_of x.visited.rows.items)
    → IsWhole (setting_for task) (ways_of task) (logs_of x.visited.rows.items) x.graph → AreTold task x told
