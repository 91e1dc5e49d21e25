use Rattle.std.proofs.Common.{◌≡◌, ◌≤◌, ◌+◌, ◌-◌, false, length}
use Rattle.place_search.specs.Searching.{IsSearching, setting_for}
use Rattle.place_search.proofs.Steps.{AreExpanded}
use Rattle.place_search.specs.Visiting.{AreEndsFound}
use Rattle.place_search.proofs.trying.Searcher.run.Given as goal

-- the places so far are expanded, unless one was too deep
abbrev pub invariant-places : goal.invariant-places
invariant-places g l = record {
  searching : IsSearching l.task l.self;
  ends : AreEndsFound (setting_for l.task) l.self.visited;
  place : l.place ≤ length l.self.visited.rows.items + 1;
  expanded : l.self.visited.deep ≡ false → AreExpanded l.task l.self l.place;
}

abbrev pub decreases-places : goal.decreases-places
decreases-places g l = l.task.most - l.place
