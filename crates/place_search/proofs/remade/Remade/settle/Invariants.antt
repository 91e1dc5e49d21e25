use Rattle.std.proofs.Common.{◌≡◌, ◌∷◌, []}
use Rattle.place_search.specs.Searching.{setting_for, ways_of}
use Rattle.place_search.specs.SettlingSteps.{HasMore, IsStandingAt}
use Rattle.place_search.proofs.remade.Remade.settle.Given as goal

-- the parts stand after the settling steps so far
abbrev pub invariant-loop-hart : goal.invariant-loop-hart
invariant-loop-hart l = record {
  there : IsStandingAt (setting_for l.task) l.task.signals l.log l.entries.items l.owed l.self.parts;
  more : HasMore (setting_for l.task) (ways_of l.task) l.log (l.fn.entry ∷ []) l.entries.items;
  code : l.self.code ≡ l.fn.self.code;
  start : l.self.start ≡ l.fn.self.start;
}
