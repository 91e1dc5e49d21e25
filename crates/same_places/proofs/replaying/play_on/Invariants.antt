use Rattle.std.proofs.Common.{take}
use Rattle.block_model.specs.Setting.{setting_of}
use Rattle.same_places.specs.Replayed.{StandAfter}
use Rattle.same_places.proofs.replaying.play_on.Given as goal

abbrev pub invariant-loop-index : goal.invariant-loop-index
invariant-loop-index l = StandAfter (setting_of l.image l.fn.limits) (take l.index l.log) l.parts
