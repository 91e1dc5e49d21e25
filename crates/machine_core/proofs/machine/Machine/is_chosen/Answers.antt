use Rattle.machine_core.proofs.machine.Machine.is_chosen.Goals as goal

pub returns : goal.returns
returns c = rw (← c.self.view_is) c.self.invariant.chosen
