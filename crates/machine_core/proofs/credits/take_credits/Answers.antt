use Rattle.machine_core.proofs.Common.{arith, append-nil, uncredited}
use Rattle.std.proofs.lemmas.List.{take_all, drop_all}
use Rattle.std.proofs.lemmas.List.Edits.{map_over_more}
use Rattle.std.proofs.lemmas.Grind.{common_steps}
use Rattle.machine_core.proofs.credits.take_credits.Goals as goal

pub loop-hart-preserved : goal.loop-hart-preserved
loop-hart-preserved c = grind (arith, common_steps, map_over_more uncredited)

pub returns : goal.returns
returns c = grind (arith, common_steps, take_all, drop_all, append-nil)
