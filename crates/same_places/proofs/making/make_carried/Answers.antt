use Rattle.std.proofs.Common.{refl}
use Rattle.same_places.proofs.Carried.{carried, tied_after}
use Rattle.same_places.specs.Places.{alone, rested}
use Rattle.same_places.proofs.making.make_carried.Goals as goal

pub returns-in-Ok-clause-answer : goal.returns-in-Ok-clause-answer
returns-in-Ok-clause-answer c = λ s p place pages. c.in-Ok.ensures.answer (alone s (rested p)) place (record { none = refl; pages = pages })

pub returns-in-Ok-clause-carried : goal.returns-in-Ok-clause-carried
returns-in-Ok-clause-carried c = carried _ _ _ _ _ _ c.make.ensures.answer c.make.ensures.after

pub returns-in-Ok-clause-tied : goal.returns-in-Ok-clause-tied
returns-in-Ok-clause-tied c =
    tied_after c.args.code.now c.args.parts.now c.make.new.self c.rest.new.parts c.args.hart.0 c.args.choice c.in-Ok.entry c.in-Ok.ensures.after
    c.rest.ensures.harts c.rest.ensures.pages c.rest.ensures.kernel c.rest.ensures.ended

pub returns-in-Err-clause-answer : goal.returns-in-Err-clause-answer
returns-in-Err-clause-answer c = λ s p place pages. c.in-Err.ensures.answer (alone s (rested p)) place (record { none = refl; pages = pages })

pub returns-in-Err-clause-carried : goal.returns-in-Err-clause-carried
returns-in-Err-clause-carried c = carried _ _ _ _ _ _ c.make.ensures.answer c.make.ensures.after
