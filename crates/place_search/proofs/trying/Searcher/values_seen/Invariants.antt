use Rattle.std.proofs.Common.{◌≡◌}
use Rattle.place_search.specs.Searching.{IsSearching}
use Rattle.place_search.proofs.trying.Searcher.values_seen.Given as goal

-- what was visited stays the same
abbrev pub invariant-loop-number : goal.invariant-loop-number
invariant-loop-number l = record {
  searching : IsSearching l.task l.self;
  visited : l.self.visited ≡ l.initial.self.visited;
}
