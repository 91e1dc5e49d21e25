use Rattle.std.proofs.Common.{refl}
use Rattle.graph_walks.specs.Circles.{rank_in}
use Rattle.graph_walks.proofs.LongWalks.{goes_round}
use Rattle.graph_walks.proofs.circles.look_once.Goals as goal

pub returns-in-Ok-None-clause-no : goal.returns-in-Ok-None-clause-no
returns-in-Ok-None-clause-no c = λ is. record { rank = rank_in c.raise_round.new.ranks; each = c.in-Ok-None.ensures.kept (cc) }

pub returns-in-Err-clause-yes : goal.returns-in-Err-clause-yes
returns-in-Err-clause-yes c = λ is. goes_round c.args.edges.now c.args.nodes c.requires.edges (c.in-Err.ensures.high refl c.requires.walked)
