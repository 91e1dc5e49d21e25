-- A step of the process that acts.
use Rattle.shared_procs.proofs.Common.{arith, true, false, sym, ◌∙◌, Inside, pair_seen, program_in, seen, setting_of}
use Rattle.shared_procs.proofs.PairSteps.{HasStepped, room_left, stepping}
use Rattle.shared_procs.proofs.pair.Pair.step.Goals as goal
use Rattle.shared_procs.proofs.pair.Pair.step.Goals.{After-step_of, After-step_of-2}

-- where the second process acts
abbrev after_second : After-step_of → Inside
after_second c = record {
  first = c.step_of.new.other;
  second = c.step_of.new.mine;
  segment = c.step_of.new.segment;
  limits = c.self.inside.limits;
  log = c.step_of.new.log;
}

second_stepped : (c : After-step_of) → HasStepped c.args.hart c.args.choice c.args.self.now c.step_of.result (after_second c)
second_stepped c =
    let m = c.self.inside in
    let s = setting_of m in
    let now = pair_seen (seen m) in
    let it =
    stepping c.self.inside c.args.hart c.args.choice c.own_choice-own.result c.args.self.now true c.self.invariant c.self.view_is
    (record { goes = c.in_default.ensures.goes; room = c.in_default.ensures.room; lt = c.in_default.ensures.hart }) (sym c.acting.ensures ∙ c.if-acting.true)
    c.own_choice-own.ensures in
    it.step c.step_of.result (after_second c) (c.step_of.ensures.answer s now it.at) (c.step_of.ensures.made s now it.at) c.step_of.ensures.log c.step_of.ensures.err
    (λ i. record { first = program_in (c.step_of.ensures.other i); second = program_in (c.step_of.ensures.mine i); limits = m.limits })
    (omega (arith, c.self.invariant.room, c.step_of.ensures.capacity))

pub step_of-requires-clause-may : goal.step_of-requires-clause-may
step_of-requires-clause-may c =
    let it =
    stepping c.self.inside c.args.hart c.args.choice c.own_choice-own.result c.args.self.now true c.self.invariant c.self.view_is
    (record { goes = c.in_default.ensures.goes; room = c.in_default.ensures.room; lt = c.in_default.ensures.hart }) (sym c.acting.ensures ∙ c.if-acting.true)
    c.own_choice-own.ensures in
    record { setting = setting_of c.self.inside; pair = pair_seen (seen c.self.inside); process = true; asked = it.at }

pub step_of-requires-clause-room : goal.step_of-requires-clause-room
step_of-requires-clause-room c = room_left c.self.inside c.args.self.now c.self.invariant c.self.view_is c.in_default.ensures.room

pub invariant_of-self : goal.invariant_of-self
invariant_of-self c = (second_stepped (goal.at.invariant_of-self c).After-step_of).whole

pub returns-then-acting-clause-answer : goal.returns-then-acting-clause-answer
returns-then-acting-clause-answer c = (second_stepped (goal.at.returns-then-acting-clause-answer c).After-step_of).answer

pub returns-then-acting-clause-of : goal.returns-then-acting-clause-of
returns-then-acting-clause-of c = (second_stepped (goal.at.returns-then-acting-clause-of c).After-step_of).of

pub returns-then-acting-clause-pair_run : goal.returns-then-acting-clause-pair_run
returns-then-acting-clause-pair_run c = (second_stepped (goal.at.returns-then-acting-clause-pair_run c).After-step_of).whole.run

-- where the first process acts
abbrev after_first : After-step_of-2 → Inside
after_first c = record {
  first = c.step_of-2.new.mine;
  second = c.step_of-2.new.other;
  segment = c.step_of-2.new.segment;
  limits = c.self.inside.limits;
  log = c.step_of-2.new.log;
}

first_stepped : (c : After-step_of-2) → HasStepped c.args.hart c.args.choice c.args.self.now c.step_of-2.result (after_first c)
first_stepped c =
    let m = c.self.inside in
    let s = setting_of m in
    let now = pair_seen (seen m) in
    let it =
    stepping c.self.inside c.args.hart c.args.choice c.own_choice-own.result c.args.self.now false c.self.invariant c.self.view_is
    (record { goes = c.in_default.ensures.goes; room = c.in_default.ensures.room; lt = c.in_default.ensures.hart }) (sym c.acting.ensures ∙ c.if-acting.false)
    c.own_choice-own.ensures in
    it.step c.step_of-2.result (after_first c) (c.step_of-2.ensures.answer s now it.at) (c.step_of-2.ensures.made s now it.at) c.step_of-2.ensures.log c.step_of-2.ensures.err
    (λ i. record { first = program_in (c.step_of-2.ensures.mine i); second = program_in (c.step_of-2.ensures.other i); limits = m.limits })
    (omega (arith, c.self.invariant.room, c.step_of-2.ensures.capacity))

pub step_of-requires-2-clause-may : goal.step_of-requires-2-clause-may
step_of-requires-2-clause-may c =
    let it =
    stepping c.self.inside c.args.hart c.args.choice c.own_choice-own.result c.args.self.now false c.self.invariant c.self.view_is
    (record { goes = c.in_default.ensures.goes; room = c.in_default.ensures.room; lt = c.in_default.ensures.hart }) (sym c.acting.ensures ∙ c.if-acting.false)
    c.own_choice-own.ensures in
    record { setting = setting_of c.self.inside; pair = pair_seen (seen c.self.inside); process = false; asked = it.at }

pub step_of-requires-2-clause-room : goal.step_of-requires-2-clause-room
step_of-requires-2-clause-room c = room_left c.self.inside c.args.self.now c.self.invariant c.self.view_is c.in_default.ensures.room

pub invariant_of-self-2 : goal.invariant_of-self-2
invariant_of-self-2 c = (first_stepped (goal.at.invariant_of-self-2 c).After-step_of-2).whole

pub returns-clause-answer : goal.returns-clause-answer
returns-clause-answer c = (first_stepped (goal.at.returns-clause-answer c).After-step_of-2).answer

pub returns-clause-of : goal.returns-clause-of
returns-clause-of c = (first_stepped (goal.at.returns-clause-of c).After-step_of-2).of

pub returns-clause-pair_run : goal.returns-clause-pair_run
returns-clause-pair_run c = (first_stepped (goal.at.returns-clause-pair_run c).After-step_of-2).whole.run
