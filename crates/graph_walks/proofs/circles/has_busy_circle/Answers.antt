use Rattle.std.proofs.Common.{rules, ◌∙◌}
use Rattle.graph_walks.proofs.Raised.{zeros_walked}
use Rattle.graph_walks.proofs.circles.has_busy_circle.Goals as goal

pub look-requires-clause-walked : goal.look-requires-clause-walked
look-requires-clause-walked c =
    zeros_walked c.args.edges.now c.args.nodes c.deref_mut.result.now
    (c.deref_mut.ensures.value ∙ c.in_ok-ranks.ensures.items_if_clones_equal (λ y is. first_of (cc, search rules)))
