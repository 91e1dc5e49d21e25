use Rattle.machine_core.proofs.Common.{◌≡◌, None, Ok, all_chosen, false, refl, rules, sym, ◌∙◌, arith, slice_get, IsAfter, done_of, here_of, past_of, seen, setting_of, stand_of}
use Rattle.mach_types.specs.declared.events.Choice.TheVariants as asked
use Rattle.machine_core.proofs.AdvanceAnswers.{chosen_of}
use Rattle.machine_core.proofs.FreeEvents.{free_here}
use Rattle.machine_core.proofs.StretchAppends.{code_open, has_room, is_alone, place_open}
use Rattle.machine_core.proofs.MachineCredits.{machine_next, mapped_itself}
use Rattle.machine_core.proofs.MachineSteps.{IsStep, stepped}
use Rattle.machine_core.proofs.machine.Machine.step_freely.Goals.{In-Some}
use Rattle.machine_core.proofs.machine.Machine.step_freely.Goals as goal

pub step_freely_chosen-requires-clause-chosen : goal.step_freely_chosen-requires-clause-chosen
step_freely_chosen-requires-clause-chosen c =
    chosen_of c.args.self.now.setting c.args.self.now.seed c.args.self.now.log (sym c.if-is_chosen.true ∙ c.is_chosen.ensures)

pub make_free-requires : goal.make_free-requires
make_free-requires c =
    code_open c.self.inside c.args.hart.0 c.self.invariant (rw (← c.self.view_is) at c.requires.goes) (rw (← c.self.view_is) at c.requires.hart)

pub append-requires : goal.append-requires
append-requires c =
    let room = has_room c.self.inside (rw (← c.self.view_is) at c.requires.goes) in
    omega (arith, room, c.self.invariant.room, c.self.inside.log.ok.0)

-- how the event was made
made : (c : In-Some) → IsAfter (stand_of (seen c.self.inside)) c.args.hart.0 (done_of asked.Exec (here_of (seen c.self.inside) c.args.hart.0)) c.self.inside.parts c.make_free.new.self
    × IsStep (seen c.self.inside) c.args.hart asked.Exec c.in-Some.entry c.make_free.new.self
made c =
    let m = c.self.inside in
    let v = stand_of (seen m) in
    let place = place_open m c.args.hart.0 c.self.invariant (rw (← c.self.view_is) at c.requires.goes) (rw (← c.self.view_is) at c.requires.hart) in
    let after = c.in-Some.ensures.after v place.at (is_alone m) in
    (after, stepped (seen m) m.parts c.make_free.new.self c.args.hart asked.Exec (Ok c.in-Some.entry) c.in-Some.entry place (c.in-Some.ensures.answer v place.at (is_alone m)) refl after)

pub invariant_of-self : goal.invariant_of-self
invariant_of-self c =
    let m = c.self.inside in
    let is = made (goal.at.invariant_of-self c).In-Some in
    let apart : all_chosen (setting_of m) m.seed (past_of m) ≡ false = rw (← c.self.view_is) at (sym c.is_chosen.ensures ∙ c.if-is_chosen.false) in
    machine_next m c.args.hart asked.Exec c.in-Some.entry c.make_free.new.self c.make_free.new.self.harts _ _ _ None c.self.invariant
    (rw (← c.self.view_is) at c.requires.goes) (rw (← c.self.view_is) at c.requires.hart) is.1 is.0.credits (rw apart refl)
    (λ k. mapped_itself (slice_get c.make_free.new.self.harts.items k)) refl (c.self.invariant.chosen ∙ apart) c.append.ensures.items c.append.ensures.capacity

pub returns-in-Some : goal.returns-in-Some
returns-in-Some c =
    let step = (made (goal.at.returns-in-Some c).In-Some).1 in
    record {
      free = rw (← c.self.view_is) (free_here c.self.inside c.args.hart.0 _ c.self.invariant (rw (← c.self.view_is) at c.requires.hart) c.in-Some.ensures.free);
      answer = rw (← c.self.view_is) step.decided;
      of = (step.hart, step.choice);
      log = search rules;
      none = search rules;
    }

pub returns-in-None-clause-free : goal.returns-in-None-clause-free
returns-in-None-clause-free c =
    rw (← c.self.view_is) (free_here c.self.inside c.args.hart.0 _ c.self.invariant (rw (← c.self.view_is) at c.requires.hart) c.in-None.ensures.free)
