use Rattle.membarrier_cmds.proofs.Neighbours.{expedited_alike, global_alike}
use Rattle.membarrier_cmds.proofs.theorems.global_barriers_are_about_both.Goals as goal

pub returns-clause-all : goal.returns-clause-all
returns-clause-all c = λ mine other a b harts. global_alike mine other a b harts

pub returns-clause-registered : goal.returns-clause-registered
returns-clause-registered c = λ mine other a b harts. expedited_alike mine other a b harts
