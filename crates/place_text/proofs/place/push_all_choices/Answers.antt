use Rattle.std.proofs.Common.{map, arith}
use Rattle.place_text.specs.Choices.{choices_text}
use Rattle.place_text.specs.Live.{run_of}
use Rattle.place_text.specs.Place.{choices_of_harts}
use Rattle.place_text.specs.Seen.{past_of}
use Rattle.place_text.proofs.Lists.{all_numbers, range_step}
use Rattle.place_text.proofs.place.push_all_choices.Goals as goal

pub loop-number-preserved : goal.loop-number-preserved
loop-number-preserved c =
    let v = c.args.machine.now in
    range_step (choices_text v.setting (past_of v) (map run_of c.args.live.now)) _ _ _ c.loop-number.number c.loop-number.invariant
    c.in_ok-push_choices.ensures

pub returns : goal.returns
unfolding choices_of_harts
returns c =
    let v = c.args.machine.now in
    all_numbers (choices_text v.setting (past_of v) (map run_of c.args.live.now)) _ _ c.loop-number.number v.setting.limits.harts (omega arith)
    c.loop-number.invariant
