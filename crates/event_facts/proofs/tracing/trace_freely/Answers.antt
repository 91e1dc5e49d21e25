use Rattle.std.proofs.Common.{◌≡◌, ◌<◌, ◌∙◌, Option, Some, None, ap, false, is_some, refl, subst, sym}
use Rattle.block_model.specs.Setting.{Seen}
use Rattle.event_facts.specs.Telling.{here_on, past_of}
use Rattle.event_facts.proofs.FreeFacts.{freely, not_free, plain}
use Rattle.event_facts.proofs.tracing.trace_freely.Goals as goal

pub register_on-value-requires : goal.register_on-value-requires
register_on-value-requires c = subst (λ (m : Seen). c.args.hart.0 < m.setting.limits.harts) (sym c.in-Some-step_freely.ensures.log) c.requires.hart

nothing : {X : Type 0} (o : Option X) → ((x : X) → o ≡ Some x → ⊥) → is_some o ≡ false
nothing None none = refl
nothing (Some x) none = absurd (none x refl)

pub returns-in_default-clause-free : goal.returns-in_default-clause-free
returns-in_default-clause-free c =
    sym (not_free (here_on c.args.machine.now c.args.hart.0) (sym c.register_alone.ensures.alone ∙ nothing c.register_alone.result c.in_default.not-Some))

pub returns-clause-told : goal.returns-clause-told
returns-clause-told c =
    let m = c.args.machine.now in
    let m' = c.step_freely.new.self in
    let h = c.args.hart.0 in
    let step = c.in-Some-step_freely.ensures in
    let next = c.in-Some.ensures.effect in
    let free = sym c.step_freely.ensures.free ∙ ap is_some c.in-Some-step_freely.is in
    let is = plain m m' h _ _ next.0 next.1 c.requires.run step.answer (ap (λ k. k.0) step.of.0) step.of.1 step.log free next.2 in
    freely m m' h _ _ next.0 next.1 c.requires.run step.answer (ap (λ k. k.0) step.of.0) step.of.1 step.log free next.2
    c.args.facts.now.items c.push_if_other.new.facts.items c.register_on-before.result c.register_on-value.result
    (c.plain_events_are_told_by_their_facts.ensures m.setting (past_of m) _ _ is)
    c.register_on-before.ensures c.register_on-value.ensures c.in_ok-push_if_other.ensures
