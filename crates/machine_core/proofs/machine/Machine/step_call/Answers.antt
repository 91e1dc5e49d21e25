-- A call, and what the kernel wrote in it.
use Rattle.machine_core.proofs.Common.{ap, rules, ◌∙◌, arith, Here, IsAfter, IsPlanned, done_of, here_of, seen, stand_of, same_here}
use Rattle.mach_types.specs.declared.events.Choice.TheVariants as asked
use Rattle.machine_core.proofs.AllowedPlaces.{IsAllowedPlace, allowed_place, call_next, call_step, planned_call}
use Rattle.machine_core.proofs.MachineCredits.{machine_goes, machine_next}
use Rattle.machine_core.proofs.MachineSteps.{IsStep}
use Rattle.machine_core.proofs.machine.Machine.step_call.Goals as goal
use Rattle.machine_core.proofs.machine.Machine.step_call.Goals.{After-make_call-made, After-seen_if_chosen-seen}

-- the place of the call, which is planned there
there : (c : After-seen_if_chosen-seen) → IsAllowedPlace c.self.inside c.args.hart.0 asked.Exec × IsPlanned (stand_of (seen c.self.inside)) c.args.hart.0 call_next
there c =
    let at = allowed_place c.self.inside c.args.hart.0 asked.Exec c.requires.allowed.0 c.self.invariant (rw (← c.self.view_is) at c.requires.allowed.1) in
    (at, planned_call c.self.inside c.args.hart.0 c.self.invariant at (rw (← c.self.view_is) at c.requires.call) (rw (← c.self.view_is) at c.requires.no_fault))

pub seen_if_chosen-seen-requires : goal.seen_if_chosen-seen-requires
seen_if_chosen-seen-requires c =
    rw (← c.self.view_is) (allowed_place c.self.inside c.args.hart.0 asked.Exec c.requires.allowed.0 c.self.invariant (rw (← c.self.view_is) at c.requires.allowed.1)).lt

pub make_call-made-requires : goal.make_call-made-requires
make_call-made-requires c =
    let call = there (goal.at.make_call-made-requires c).After-seen_if_chosen-seen in
    record { stand = stand_of (seen c.self.inside); place = call.0.place.at; plan = call.1 }

-- and how it was made there
made : (c : After-make_call-made) (at : IsAllowedPlace c.self.inside c.args.hart.0 asked.Exec) → IsPlanned (stand_of (seen c.self.inside)) c.args.hart.0 call_next
    → IsAfter (stand_of (seen c.self.inside)) c.args.hart.0 (done_of asked.Exec (here_of (seen c.self.inside) c.args.hart.0)) c.self.inside.parts c.make_call-made.new.self
    × IsStep (seen c.self.inside) c.args.hart asked.Exec c.make_call-made.result.0 c.make_call-made.new.self
made c at plan =
    let v = stand_of (seen c.self.inside) in
    let after = c.make_call-made.ensures.after v at.place.at plan in
    (after, call_step c.self.inside c.args.hart c.make_call-made.result.0 c.make_call-made.new.self at (c.make_call-made.ensures.entry v at.place.at) after)

pub append-requires : goal.append-requires
append-requires c =
    let at = (there (goal.at.append-requires c).After-seen_if_chosen-seen).0 in
    omega (arith, at.room, c.self.invariant.room, c.self.inside.log.ok.0)

pub follow_seen-self-inside-requires-clause-hart : goal.follow_seen-self-inside-requires-clause-hart
follow_seen-self-inside-requires-clause-hart c =
    let at = (there (goal.at.follow_seen-self-inside-requires-clause-hart c).After-seen_if_chosen-seen).0 in
    omega (arith, at.lt, c.self.invariant.limits.eight_harts)

pub follow_seen-self-inside-requires-clause-held : goal.follow_seen-self-inside-requires-clause-held
follow_seen-self-inside-requires-clause-held c =
    let is = goal.at.follow_seen-self-inside-requires-clause-held c in
    let call = there is.After-seen_if_chosen-seen in
    omega (arith, (made is.After-make_call-made call.0 call.1).0.tied.all_harts, call.0.lt)

pub invariant_of-self : goal.invariant_of-self
invariant_of-self c =
    let call = there (goal.at.invariant_of-self c).After-seen_if_chosen-seen in
    let is = made (goal.at.invariant_of-self c).After-make_call-made call.0 call.1 in
    machine_next c.self.inside c.args.hart asked.Exec c.make_call-made.result.0 c.make_call-made.new.self _ _ _ _ c.seen_if_chosen-seen.result c.self.invariant
    (machine_goes c.self.inside c.self.invariant call.0.goes call.0.room) call.0.lt is.1 is.0.credits (rw (← c.self.view_is) at c.seen_if_chosen-seen.ensures)
    c.follow_seen-self-inside.ensures.harts c.follow_seen-self-inside.ensures.generators c.follow_seen-self-inside.ensures.followed c.append.ensures.items c.append.ensures.capacity

pub returns : goal.returns
returns c =
    let call = there (goal.at.returns c).After-seen_if_chosen-seen in
    let step = (made (goal.at.returns c).After-make_call-made call.0 call.1).1 in
    record {
      answer = rw (← c.self.view_is) step.decided;
      log = search rules;
      block_run = rw c.append.ensures.items step.run;
      written = rw (← c.self.view_is) (c.make_call-made.ensures.written (stand_of (seen c.self.inside)) call.0.place.at call.1
          ∙ ap (λ (x : Here). (done_of asked.Exec x).entered) (same_here (seen c.self.inside) c.args.hart.0 c.self.invariant.run));
    }
