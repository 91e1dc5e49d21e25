use Rattle.process.proofs.Common.{◌≤◌, arith, sym, ◌∙◌, le-ltb}
use Rattle.mach_types.proofs.Laws.{has_hart-past}
use Rattle.process.proofs.requests.has_hart.Goals as goal

pub returns-else-hart-lt8 : goal.returns-else-hart-lt8
returns-else-hart-lt8 c =
    let past : 8 ≤ c.args.hart = omega (arith, c.if-hart-lt8.false) in
    le-ltb c.args.hart 8 past ∙ sym (has_hart-past c.args.set 8 c.args.hart (omega arith) past)
