use Rattle.std.proofs.Common.{◌≡◌, ◌-◌, ◌+◌, ℕ, true, false, cond, length, All}
use Rattle.graph_walks.specs.Walks.{AreClosed, AreLed, IsMarked, count_marks}
use Rattle.graph_walks.proofs.marks.mark_walks.Given as goal

-- the ends are marked, and nodes from which one can be reached; and where the last round marked none, there are no others
abbrev pub invariant-rounds : goal.invariant-rounds
invariant-rounds l = record {
  size : length l.marks ≡ length l.fn.marks;
  ends : All (IsMarked l.marks) l.ends;
  led : AreLed l.edges l.ends l.marks;
  closed : l.going ≡ false → AreClosed l.edges l.marks;
}

abbrev pub decreases-rounds : goal.decreases-rounds
decreases-rounds l = length l.marks - count_marks l.marks + cond l.going 1 0
