-- Whether a hart goes freely.
use Rattle.machine_core.proofs.Common.{◌∙◌, ◌&&◌, Option, ap, false, is_some, not, option_map_or, Effect, sets_register}
use Rattle.machine_core.proofs.FreeSteps.{freely_read}
use Rattle.machine_core.proofs.Readings.{here_read}
use Rattle.machine_core.proofs.machine.Machine.goes_freely.Goals as goal

pub returns : goal.returns
returns c =
    let x = c.hart-state.result.now in
    rw (← c.self.view_is) (c.is_free.ensures
    ∙ ap (λ (o : Option Effect). option_map_or sets_register o false && is_some x.running && not (is_some x.waits)) (c.as_ref.ensures.value ∙ c.effect_of_next.ensures)
    ∙ freely_read (here_read c.self.inside c.args.hart.0) x _ _ _ (rw (← c.self.view_is) at c.hart-state.ensures))
