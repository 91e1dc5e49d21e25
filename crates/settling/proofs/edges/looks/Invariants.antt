use Rattle.std.proofs.Common.{◌≡◌, map, ◌++◌}
use Rattle.settling.specs.Looks.{look_in}
use Rattle.settling.proofs.edges.looks.Given as goal

abbrev pub invariant-loop-entry : goal.invariant-loop-entry
invariant-loop-entry l = l.all.items ++ map (look_in l.fn.parts) l.entry-iterator.rest.now ≡ map (look_in l.fn.parts) l.fn.parts.kernel.areas.items
