use Rattle.std.proofs.Common.{get_or, sym, ◌∙◌, arith}
use Rattle.step_log.proofs.FieldReads.{digit_read}
use Rattle.step_log.proofs.Quick.{IsReadTo, read_bound, read_more, read_fits}
use Rattle.step_log.proofs.parsing.hex_number.Goals as goal

pub overflow_mul-number : goal.overflow_mul-number
overflow_mul-number c = omega (arith, read_bound c.args.digits.now c.loop-digit.digit-index c.loop-digit.number c.loop-digit.invariant c.requires c.loop-digit-test.true)

pub overflow_add-number : goal.overflow_add-number
overflow_add-number c =
    let digit = digit_read (get_or c.args.digits.now c.loop-digit.digit-index 0) c.in_ok-hex_digit_value.field-0 (sym c.in_ok-hex_digit_value.was ∙ c.hex_digit_value.ensures) in
    let value = c.from.ensures in
    omega (arith, digit.1, read_fits c.args.digits.now c.loop-digit.digit-index c.loop-digit.number c.loop-digit.invariant c.requires c.loop-digit-test.true digit.0)

pub loop-digit-preserved : goal.loop-digit-preserved
loop-digit-preserved c =
    let digit = digit_read (get_or c.args.digits.now c.loop-digit.digit-index 0) c.in_ok-hex_digit_value.field-0 (sym c.in_ok-hex_digit_value.was ∙ c.hex_digit_value.ensures) in
    let more = read_more c.args.digits.now c.loop-digit.digit-index c.loop-digit.number c.loop-digit.invariant c.loop-digit-test.true digit.0 in
    let value = c.from.ensures ∙ sym digit.1 in
    rw (value) more
