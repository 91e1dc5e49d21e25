-- A word as a hart sees it.
use Rattle.machine_core.proofs.Common.{◌∙◌}
use Rattle.machine_core.proofs.Readings.{word_read}
use Rattle.machine_core.proofs.machine.Machine.view.Goals as goal

pub returns : goal.returns
returns c =
    rw (← c.self.view_is) (c.look.ensures.seen ∙ word_read c.self.inside c.args.hart.0 c.hart.result.now _ _ _ c.args.at c.args.size c.self.invariant (rw (← c.self.view_is) at c.hart.ensures))
