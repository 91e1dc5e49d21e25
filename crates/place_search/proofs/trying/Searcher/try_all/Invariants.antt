use Rattle.std.proofs.Common.{ℕ, ◌<◌, All}
use Rattle.place_search.specs.Graphs.{IsWithMore}
use Rattle.place_search.specs.Searching.{IsOpenAt, IsTriedWhereDue, setting_for}
use Rattle.place_search.specs.Visiting.{AreEndsFound, IsMore}
use Rattle.place_search.proofs.trying.Searcher.try_all.Given as goal

-- all choices of the harts so far are tried
abbrev pub invariant-loop-hart : goal.invariant-loop-hart
invariant-loop-hart l = record {
  going : IsOpenAt l.task l.self l.from;
  more : IsMore l.initial.self.visited l.self.visited;
  grown : IsWithMore l.initial.self.graph l.self.graph;
  tried : (h : ℕ) → h < l.hart → All (IsTriedWhereDue l.task l.self l.from h) l.choices.items;
  ends : AreEndsFound (setting_for l.task) l.initial.self.visited → AreEndsFound (setting_for l.task) l.self.visited;
}
