use Rattle.machine_core.proofs.machine.Machine.may_execute.Goals as goal

pub is_enabled-requires-clause-effect : goal.is_enabled-requires-clause-effect
is_enabled-requires-clause-effect c = rw (← c.self.view_is) c.effect_at.ensures.effect
