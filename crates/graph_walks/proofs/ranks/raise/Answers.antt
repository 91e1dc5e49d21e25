use Rattle.std.proofs.Common.{subst, sym, ℕ, arith}
use Rattle.graph_walks.specs.Circles.{DoesWork}
use Rattle.graph_walks.proofs.Raised.{walk_along, walked_raised}
use Rattle.graph_walks.proofs.ranks.raise.Goals as goal

pub returns-then-asked-from-2-clause-high : goal.returns-then-asked-from-2-clause-high
returns-then-asked-from-2-clause-high c = λ is edges among walked. record {
  from = c.args.edge.from;
  work = c.asked_by-asked.result;
  more = omega arith;
  walk = subst (λ (n : ℕ). DoesWork edges n c.args.edge.from) (sym c.asked_by-asked.ensures) (walk_along edges c.args.ranks.now c.args.edge among walked);
}

pub returns-clause-walked : goal.returns-clause-walked
returns-clause-walked c = λ edges among walked.
    walked_raised edges c.args.ranks.now c.args.edge c.asked_by-asked.result c.requires.within.from among c.asked_by-asked.ensures walked
