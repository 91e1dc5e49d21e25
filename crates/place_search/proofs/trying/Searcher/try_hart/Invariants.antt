use Rattle.std.proofs.Common.{All, take}
use Rattle.place_search.specs.Graphs.{IsWithMore}
use Rattle.place_search.specs.Searching.{IsOpenAt, IsTriedWhereDue, setting_for}
use Rattle.place_search.specs.Visiting.{AreEndsFound, IsMore}
use Rattle.place_search.proofs.trying.Searcher.try_hart.Given as goal

-- the choices so far are tried
abbrev pub invariant-loop-choice : goal.invariant-loop-choice
invariant-loop-choice l = record {
  going : IsOpenAt l.task l.self l.from;
  more : IsMore l.initial.self.visited l.self.visited;
  grown : IsWithMore l.initial.self.graph l.self.graph;
  tried : All (IsTriedWhereDue l.task l.self l.from l.fn.hart.0) (take l.choice-index l.choices);
  ends : AreEndsFound (setting_for l.task) l.initial.self.visited → AreEndsFound (setting_for l.task) l.self.visited;
}
