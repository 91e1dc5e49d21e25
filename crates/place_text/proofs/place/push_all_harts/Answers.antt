use Rattle.std.proofs.Common.{arith}
use Rattle.place_text.specs.Harts.{hart_text}
use Rattle.place_text.specs.Place.{harts_text}
use Rattle.place_text.specs.Seen.{here_of}
use Rattle.place_text.proofs.Lists.{all_numbers, range_step}
use Rattle.place_text.proofs.place.push_all_harts.Goals as goal

pub loop-number-preserved : goal.loop-number-preserved
loop-number-preserved c =
    range_step (λ h. hart_text (here_of c.args.machine.now h)) _ _ _ c.loop-number.number c.loop-number.invariant c.in_ok-push_hart.ensures

pub returns : goal.returns
unfolding harts_text
returns c =
    all_numbers (λ h. hart_text (here_of c.args.machine.now h)) _ _ c.loop-number.number c.args.machine.now.setting.limits.harts (omega arith)
    c.loop-number.invariant
