use Rattle.std.proofs.Common.{◌≤◌, arith, sym, ◌∙◌}
use Rattle.std.proofs.lemmas.Bool.{le-ltb}
use Rattle.mach_types.proofs.Laws.{has_hart-past}
use Rattle.owed_signals.proofs.owing.has_hart.Goals as goal

pub returns-else-hart-lt8 : goal.returns-else-hart-lt8
returns-else-hart-lt8 c =
    let past : 8 ≤ c.args.hart.0 = omega (arith, c.if-hart-lt8.false) in
    le-ltb c.args.hart.0 8 past ∙ sym (has_hart-past c.args.set 8 c.args.hart.0 (omega arith) past)
