use Rattle.block_model.specs.Deciding.{entry_in}
use Rattle.block_model.specs.Events.{refusal_of}
use Rattle.block_model.specs.Plain.{here_in_plain}
unfoldable use Rattle.block_model.specs.Plain.{plain_after}
use Rattle.same_places.proofs.Tries.{answer_err, code_of, longer, place_of}
use Rattle.same_places.proofs.trying.try_choice.Goals as goal

pub make_carried-requires : goal.make_carried-requires
make_carried-requires c = code_of c.args.code.now c.args.parts.now c.args.hart.0 c.requires

pub returns-in-Ok-clause-carried : goal.returns-in-Ok-clause-carried
returns-in-Ok-clause-carried c = λ s log at. c.in-Ok.ensures.carried s (plain_after s log) (place_of s log c.args.code.now c.args.parts.now c.args.hart.0 at) at.pages

pub returns-in-Ok-clause-ok : goal.returns-in-Ok-clause-ok
returns-in-Ok-clause-ok c = λ s log at.
    let place = place_of s log c.args.code.now c.args.parts.now c.args.hart.0 at in
    longer s log c.args.code.now c.args.parts.now c.make_carried.new.parts c.args.hart.0 c.args.choice c.in-Ok.entry at (c.in-Ok.ensures.answer s (plain_after s log) place at.pages)
    (c.in-Ok.ensures.tied s (plain_after s log) place at.pages)

pub returns-in-Err-clause-carried : goal.returns-in-Err-clause-carried
returns-in-Err-clause-carried c = λ s log at. c.in-Err.ensures.carried s (plain_after s log) (place_of s log c.args.code.now c.args.parts.now c.args.hart.0 at) at.pages

pub returns-in-Err-clause-refused : goal.returns-in-Err-clause-refused
returns-in-Err-clause-refused c = λ s log at.
    answer_err (entry_in c.args.choice (here_in_plain s (plain_after s log) c.args.hart.0)) c.in-Err.why (refusal_of c.args.choice (here_in_plain s (plain_after s log) c.args.hart.0))
    (c.in-Err.ensures.answer s (plain_after s log) (place_of s log c.args.code.now c.args.parts.now c.args.hart.0 at) at.pages)
