use Rattle.std.proofs.Common.{arith, rules}
use Rattle.std.proofs.lemmas.Grind.{common_steps}
use Rattle.log_gather.proofs.TouchedBytes.{looked_again}
use Rattle.log_gather.proofs.clashes.Touched.add_looked_at.Goals as goal

pub returns-then-eq : goal.returns-then-eq
returns-then-eq c = looked_again c.args.self.now c.args.looked_at c.requires (first_of (search rules, grind (arith, common_steps)))
