-- What the next instruction of a hart's thread asks for.
use Rattle.machine_core.proofs.Common.{◌∙◌, false, sym, true}
use Rattle.machine_core.proofs.Readings.{here_read}
use Rattle.machine_core.proofs.Sights.{effect_read}
use Rattle.machine_core.proofs.machine.Machine.next_effect.Goals as goal

pub returns-else-is_idle : goal.returns-else-is_idle
returns-else-is_idle c =
    rw (← c.self.view_is) (c.effect_of_next.ensures
    ∙ effect_read (here_read c.self.inside c.args.hart.0) c.hart-state.result.now _ _ _ false (rw (← c.self.view_is) at c.hart-state.ensures) (sym c.if-is_idle.false ∙ c.is_idle.ensures))

pub returns-then-is_idle : goal.returns-then-is_idle
returns-then-is_idle c =
    rw (← c.self.view_is) (effect_read (here_read c.self.inside c.args.hart.0) c.hart-state.result.now _ _ _ true (rw (← c.self.view_is) at c.hart-state.ensures) (sym c.if-is_idle.true ∙ c.is_idle.ensures))
