use Rattle.place_text.proofs.Digits.{no_digits, digit_step}
use Rattle.place_text.proofs.fields.+push_digits.Goals as goal

pub returns-then-places-eq0 : goal.returns-then-places-eq0
returns-then-places-eq0 t c = no_digits c.args.text.now.items c.args.places c.args.number c.if-places-eq0.true

pub returns : goal.returns
returns t c =
    digit_step c.args.text.now.items _ _ c.args.places c.args.number _ c.if-places-eq0.false c.in_ok-push_digits.ensures c.hex_digit.ensures
    c.in_ok-push.ensures.items
