use Rattle.std.proofs.Common.{arith, rules}
use Rattle.log_gather.proofs.TouchedBytes.{looked_with}
use Rattle.log_gather.proofs.byte_sets.ByteSet.add_looked_at.Goals as goal

pub returns : goal.returns
returns c =
    looked_with c.args.looked_at.now _ _ (first_of (search rules, omega arith)) (first_of (search rules, omega arith))
    c.in_ok-add.ensures c.in_ok-add-2.ensures c.in_ok-add_if.ensures c.in_ok-add_if-2.ensures
