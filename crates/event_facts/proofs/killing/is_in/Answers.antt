use Rattle.std.proofs.Common.{◌∙◌, arith, le-ltb, sym}
use Rattle.event_facts.proofs.FoundReasons.{far_bit}
use Rattle.event_facts.proofs.killing.is_in.Goals as goal

pub returns-else-place-lt64 : goal.returns-else-place-lt64
returns-else-place-lt64 c =
    let place = c.saturating_sub-place.ensures in
    let far = c.if-place-lt64.false in
    le-ltb c.saturating_sub-place.result 64 far ∙ sym (far_bit c.args.set c.args.signal c.ranges.set.fits (omega (arith, place, far)))
