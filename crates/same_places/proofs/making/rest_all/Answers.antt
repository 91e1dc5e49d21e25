use Rattle.std.proofs.Common.{arith, append-nil}
use Rattle.same_places.specs.Resting.{rested_hart}
use Rattle.std.proofs.lemmas.List.{take_all, drop_all}
use Rattle.std.proofs.lemmas.List.Edits.{map_over_more}
use Rattle.std.proofs.lemmas.Grind.{common_steps}
use Rattle.same_places.proofs.making.rest_all.Goals as goal

pub loop-hart-preserved : goal.loop-hart-preserved
loop-hart-preserved c = grind (arith, common_steps, map_over_more rested_hart)

pub returns : goal.returns
returns c = grind (arith, common_steps, take_all, drop_all, append-nil)
