use Rattle.std.proofs.Common.{◌≡◌, ◌∙◌, ◌&&◌, Option, ℕ, Some, None, ap, cond, is_none, not, refl, subst, sym}
use Rattle.std.specs.Option.{IfSome}
use Rattle.rv_inst.specs.Class.{is_call}
use Rattle.rv_inst.specs.Sizes.{HasAccessSizes}
use Rattle.rv_inst.specs.declared.effects.Effect.{Effect}
use Rattle.block_model.specs.Sights.{effect_here}
use Rattle.event_facts.specs.Telling.{here_on}
use Rattle.event_facts.proofs.PlainEffects.{effect_is, effect_sized, sized_if}
use Rattle.event_facts.proofs.telling.plain_effect.Goals as goal

pub returns : goal.returns
returns c =
    let here = here_on c.args.machine.now c.args.hart.0 in
    let e = c.in_ok-effect.effect in
    let is : effect_here here ≡ Some e = sym c.next-next.ensures.effect ∙ c.in_ok-effect.was in
    record {
      effect = c.unless_fault_or_call.ensures
          ∙ ap (λ (f : Option ℕ). let o : Option Effect = cond (is_none f && not (is_call e)) (Some e) None in o) c.next-next.ensures.fault
          ∙ sym (effect_is here e _ is refl);
      sizes = subst (λ (o : Option Effect). IfSome o HasAccessSizes) (sym c.unless_fault_or_call.ensures) (sized_if _ e (effect_sized here e is));
    }
