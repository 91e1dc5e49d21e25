use Rattle.block_view.proofs.theorems.counts_add_up.Goals as goal
use Rattle.block_view.proofs.Tallies.{total_is}

pub returns : goal.returns
returns c = λ list h. total_is list h
