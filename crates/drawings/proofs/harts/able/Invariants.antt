-- so far the harts below this one that can act
use Rattle.std.proofs.Common.{◌≡◌, ◌≤◌, length}
use Rattle.drawings.specs.Scenes.{is_able, passing}
use Rattle.drawings.proofs.harts.able.Given as goal

abbrev pub invariant-loop-number : goal.invariant-loop-number
invariant-loop-number g l = record {
  so_far : l.able.items ≡ passing (is_able (g.H.Harts.scene l.harts) l.opened) l.number;
  few : length l.able.items ≤ l.number;
}
