-- The bytes of the console.
use Rattle.machine_core.proofs.Common.{◌∙◌}
use Rattle.machine_core.proofs.Readings.{console_read}
use Rattle.machine_core.proofs.machine.Machine.console.Goals as goal

pub returns : goal.returns
returns c = rw (← c.self.view_is) (c.bytes.ensures.bytes ∙ console_read c.self.inside c.self.invariant)
