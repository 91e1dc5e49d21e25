use Rattle.block_model.specs.Setting.{setting_of}
use Rattle.same_places.proofs.EntrySteps.{stand_first}
use Rattle.same_places.proofs.replaying.replay.Goals as goal

pub play_on-requires-clause-stands : goal.play_on-requires-clause-stands
play_on-requires-clause-stands c =
    stand_first (setting_of c.args.image.now c.args.limits) c.reset.new.self c.rest.new.parts c.rest.ensures.harts c.rest.ensures.pages c.rest.ensures.kernel c.rest.ensures.ended c.reset.ensures.tied
