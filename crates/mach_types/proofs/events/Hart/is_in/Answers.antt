use Rattle.std.proofs.Common.{arith}
use Rattle.std.proofs.lemmas.Bool.Decides.{nat_tests}
use Rattle.mach_types.proofs.HartSets.{has_hart-past}
use Rattle.mach_types.proofs.events.Hart.is_in.Goals as goal

pub returns-else-self-lt8 : goal.returns-else-self-lt8
returns-else-self-lt8 c =
    let none = has_hart-past c.args.set 8 c.args.self.0 (omega arith) (omega arith) in
    grind (arith, nat_tests)
