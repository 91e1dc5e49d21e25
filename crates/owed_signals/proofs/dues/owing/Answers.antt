use Rattle.owed_signals.specs.Dues.{owes_with}
use Rattle.owed_signals.proofs.Sets.{one_more_fits}
use Rattle.owed_signals.proofs.dues.owing.Goals as goal

pub overflow_add-harts : goal.overflow_add-harts
overflow_add-harts c =
    let a = c.args in
    one_more_fits (owes_with a.parts.now a.owed a.with_stores) c.loop-hart.hart c.loop-hart.harts c.loop-hart-test.true c.loop-hart.invariant
