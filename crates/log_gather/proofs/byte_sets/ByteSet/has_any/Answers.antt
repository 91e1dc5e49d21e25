use Rattle.std.proofs.Common.{◌∙◌, arith, rules}
use Rattle.std.proofs.lemmas.Grind.{common_steps}
use Rattle.log_gather.proofs.ClashingBytes.{any_each, any_met, none_each, none_outside}
use Rattle.log_gather.proofs.byte_sets.ByteSet.has_any.Goals as goal

pub returns-then-not-reaches : goal.returns-then-not-reaches
returns-then-not-reaches c = none_outside c.args.self.now c.args.at c.args.count c.requires.bounded (search rules)

pub returns-then-meets : goal.returns-then-meets
returns-then-meets c = any_met c.args.self.now c.args.at c.args.count (search rules)

pub returns-then-len-lt-MOST_EXTENTS : goal.returns-then-len-lt-MOST_EXTENTS
returns-then-len-lt-MOST_EXTENTS c =
    none_each c.args.self.now c.args.at c.args.count c.requires.bounded (first_of (search rules, grind (arith, common_steps))) (first_of (search rules, omega arith))

pub returns : goal.returns
returns c = c.has_each.ensures ∙ any_each c.args.self.now c.args.at c.args.count (first_of (search rules, grind (arith, common_steps)))
