use Rattle.owed_signals.specs.Owing.{owes_in}
use Rattle.owed_signals.proofs.Sets.{one_more_fits}
use Rattle.owed_signals.proofs.owing.owed_after.Goals as goal

pub overflow_add-owed : goal.overflow_add-owed
overflow_add-owed c =
    let a = c.args in
    one_more_fits (owes_in a.signals a.parts.now a.before a.of.0 a.choice a.trapped) c.loop-hart.hart c.loop-hart.owed c.loop-hart-test.true c.loop-hart.invariant
