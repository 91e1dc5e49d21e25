use Rattle.std.proofs.Common.{Ok, ap}
use Rattle.graph_walks.proofs.Raised.{nearer}
use Rattle.graph_walks.proofs.circles.look.Goals as goal

pub rounds-smaller : goal.rounds-smaller
rounds-smaller c =
    nearer c.args.nodes c.rounds.ranks c.look_once.new.ranks c.in_ok-answer.ensures.size c.in_ok-answer.ensures.low (c.in_ok-answer.ensures.more (ap Ok c.in_default.is))
