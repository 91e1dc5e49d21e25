use Rattle.process.proofs.Common.{rules, ◌≡◌, Some, sym, ap, ◌∙◌, subst, Next, HasPlan, IsExecuted}
use Rattle.rv_inst.specs.declared.effects.Effect.TheVariants as effect
use Rattle.process.proofs.parts.Parts.execute.Goals as goal

pub fault-requires : goal.fault-requires
fault-requires c =
    subst (λ (n : Next). HasPlan c.args.self.now c.args.hart.0 n) (ap (λ o. record { effect = c.args.next.effect; fault = o }) c.in-Some-default.is-0) c.requires

pub call-requires : goal.call-requires
call-requires c =
    let is : c.args.next.effect ≡ Some effect.Call = search rules in
    subst (λ (n : Next). HasPlan c.args.self.now c.args.hart.0 n)
    (ap (λ o. record { effect = o; fault = c.args.next.fault }) is
    ∙ ap (λ o. record { effect = Some effect.Call; fault = o }) c.in-None-Some-Call.is-0) c.requires

pub plain-requires : goal.plain-requires
plain-requires c = record {
  plan = subst (λ (n : Next). HasPlan c.args.self.now c.args.hart.0 n)
      (ap (λ o. record { effect = o; fault = c.args.next.fault }) c.in-None-Some.is-1
      ∙ ap (λ o. record { effect = Some c.in-None-Some.effect; fault = o }) c.in-None-Some.is-0) c.requires;
  no_call = search rules;
}

pub returns-in-Some-default : goal.returns-in-Some-default
returns-in-Some-default c =
    subst (λ (n : Next). IsExecuted c.args.self.now c.args.hart.0 n c.fault.new.self) (ap (λ o. record { effect = c.args.next.effect; fault = o }) (sym c.in-Some-default.is-0)) c.fault.ensures

pub returns-in-None-Some-Call : goal.returns-in-None-Some-Call
returns-in-None-Some-Call c =
    let is : c.args.next.effect ≡ Some effect.Call = search rules in
    subst (λ (n : Next). IsExecuted c.args.self.now c.args.hart.0 n c.call.new.self) (ap (λ o. record { effect = Some effect.Call; fault = o }) (sym c.in-None-Some-Call.is-0) ∙ ap (λ o. record { effect = o; fault = c.args.next.fault }) (sym is)) c.call.ensures

pub returns-in-None-Some : goal.returns-in-None-Some
returns-in-None-Some c =
    subst (λ (n : Next). IsExecuted c.args.self.now c.args.hart.0 n c.plain.new.self) (ap (λ o. record { effect = Some c.in-None-Some.effect; fault = o }) (sym c.in-None-Some.is-0) ∙ ap (λ o. record { effect = o; fault = c.args.next.fault }) (sym c.in-None-Some.is-1)) c.plain.ensures
