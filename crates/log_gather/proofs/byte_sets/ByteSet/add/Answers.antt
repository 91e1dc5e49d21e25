use Rattle.std.proofs.Common.{◌+◌, arith, rules}
use Rattle.std.proofs.lemmas.Grind.{common_steps}
use Rattle.log_gather.proofs.ClashingBytes.{with_covered, with_each, with_pushed}
use Rattle.log_gather.proofs.byte_sets.ByteSet.add.Goals as goal

pub returns-then-covers : goal.returns-then-covers
returns-then-covers c = with_covered c.args.self.now c.args.at c.args.count c.requires.bounded (first_of (search rules, grind (arith, common_steps)))

pub returns-then-len-lt-MOST_EXTENTS : goal.returns-then-len-lt-MOST_EXTENTS
returns-then-len-lt-MOST_EXTENTS c =
    with_pushed c.args.self.now _ c.args.at c.args.count (c.args.at + c.from.result) (first_of (search rules, omega arith)) c.requires.bounded
    (first_of (search rules, omega arith)) (first_of (search rules, omega arith)) (first_of (search rules, omega arith)) (first_of (search rules, omega arith))
    (first_of (search rules, grind (arith, common_steps))) (first_of (search rules, grind (arith, common_steps))) (first_of (search rules, omega arith))

pub returns : goal.returns
returns c =
    with_each c.args.self.now _ c.args.at c.args.count _ (first_of (search rules, omega arith)) c.requires.bounded
    (first_of (search rules, omega arith)) (first_of (search rules, omega arith)) (first_of (search rules, omega arith)) (first_of (search rules, omega arith))
    c.in_ok-add_each.ensures.members c.in_ok-add_each.ensures.extents (first_of (search rules, omega arith))
