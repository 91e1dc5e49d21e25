-- A fault, a call, or another instruction.
use Rattle.rv_inst.specs.declared.effects.Effect.TheVariants as effect
use Rattle.shared_procs.proofs.Common.{rules, ◌≡◌, Some, subst, call_next, HasNext, Next, plain_next}
use Rattle.shared_procs.proofs.PairInstructions.{none_there, performed_as, step_as, step_there}
use Rattle.shared_procs.proofs.events.perform.Goals as goal

pub fault-requires : goal.fault-requires
fault-requires c =
    let n : Next = record { effect = c.args.next.effect; fault = Some c.in-Some-default.signal } in
    let same : c.args.next ≡ n = λ i. record { effect = c.args.next.effect; fault = c.in-Some-default.is-0 i } in
    step_there c.args.hart.0 c.args.next n c.args.mine.now c.args.other.now c.args.segment.now same c.requires

pub call-requires : goal.call-requires
call-requires c =
    let is : c.args.next.effect ≡ Some effect.Call = search rules in
    let same : c.args.next ≡ call_next = λ i. record { effect = is i; fault = c.in-None-Some-Call.is-0 i } in
    step_there c.args.hart.0 c.args.next call_next c.args.mine.now c.args.other.now c.args.segment.now same c.requires

pub plain-requires : goal.plain-requires
plain-requires c =
    let same : c.args.next ≡ plain_next c.in-None-Some.effect = λ i. record { effect = c.in-None-Some.is-1 i; fault = c.in-None-Some.is-0 i } in
    record {
      next = subst (λ (n : Next). HasNext c.args.hart.0 n c.args.mine.now c.args.other.now c.args.segment.now) same c.requires;
      no_call = search rules;
    }

pub unreachable-requires : goal.unreachable-requires
unreachable-requires c =
    let has = c.requires in
    none_there has.setting has.pair has.process c.args.hart.0 c.args.next c.args.mine.now.parts c.args.other.now.parts has.step c.in-None-None.is-1 c.in-None-None.is-0

pub returns-in-Some-default : goal.returns-in-Some-default
returns-in-Some-default c =
    let n : Next = record { effect = c.args.next.effect; fault = Some c.in-Some-default.signal } in
    let same : c.args.next ≡ n = λ i. record { effect = c.args.next.effect; fault = c.in-Some-default.is-0 i } in
    performed_as c.args.hart.0 c.args.next n c.args.mine.now c.args.other.now c.args.segment.now _ _ same c.fault.ensures

pub returns-in-None-Some-Call : goal.returns-in-None-Some-Call
returns-in-None-Some-Call c =
    let is : c.args.next.effect ≡ Some effect.Call = search rules in
    let same : c.args.next ≡ call_next = λ i. record { effect = is i; fault = c.in-None-Some-Call.is-0 i } in
    performed_as c.args.hart.0 c.args.next call_next c.args.mine.now c.args.other.now c.args.segment.now _ _ same c.call.ensures

pub returns-in-None-Some : goal.returns-in-None-Some
returns-in-None-Some c s m p acting step =
    let same : c.args.next ≡ plain_next c.in-None-Some.effect = λ i. record { effect = c.in-None-Some.is-1 i; fault = c.in-None-Some.is-0 i } in
    c.plain.ensures s m p acting (step_as s m p c.args.hart.0 c.args.next _ c.args.mine.now.parts c.args.other.now.parts same step)
