use Rattle.std.proofs.Common.{arith}
use Rattle.traced_runs.proofs.Hundreds.{few_digits}
use Rattle.traced_runs.proofs.line_numbers.Hundreds.of.Goals as goal

pub write_digits-start-requires : goal.write_digits-start-requires
write_digits-start-requires c = (few_digits c.args.number c.ranges.number.fits, omega arith)
