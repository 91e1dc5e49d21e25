use Rattle.std.proofs.Common.{◌∙◌, arith}
use Rattle.step_log.proofs.Numbers.{decimal_more, decimal_over, decimal_whole}
use Rattle.step_log.proofs.parsing.decimal_value.Goals as goal

pub returns-in_err-checked_mul : goal.returns-in_err-checked_mul
returns-in_err-checked_mul c =
    c.from_residual.ensures
    ∙ decimal_over c.args.digits.now c.loop-byte.byte-index c.requires c.loop-byte-test.true (omega (arith, c.in_err-checked_mul.ensures, c.loop-byte.invariant.0))

pub returns-in_err-number : goal.returns-in_err-number
returns-in_err-number c =
    c.from_residual-in_err-number.ensures
    ∙ decimal_over c.args.digits.now c.loop-byte.byte-index c.requires c.loop-byte-test.true
    (omega (arith, c.in_err-number.ensures, c.in_ok-checked_mul.ensures, c.loop-byte.invariant.0))

pub loop-byte-preserved : goal.loop-byte-preserved
loop-byte-preserved c =
    let more = decimal_more c.args.digits.now c.loop-byte.byte-index c.requires c.loop-byte-test.true in (
      omega (arith, c.in_ok-number.ensures, c.in_ok-checked_mul.ensures, c.loop-byte.invariant.0),
      omega (arith, c.in_ok-number.ensures, c.in_ok-checked_mul.ensures),
    )

pub returns : goal.returns
returns c = decimal_whole c.args.digits.now c.loop-byte.byte-index c.loop-byte.number c.loop-byte-test.false c.loop-byte.invariant.0 c.loop-byte.invariant.1
