-- A hart, as looking back over the log says it.
use Rattle.machine_core.proofs.Readings.{hart_read}
use Rattle.machine_core.proofs.machine.Machine.hart.Goals as goal

pub returns : goal.returns
returns c =
    rw (← c.self.view_is) (hart_read c.self.inside c.args.hart.0 c.index.result.now c.self.invariant (rw (← c.self.view_is) at c.requires) c.index.ensures)
