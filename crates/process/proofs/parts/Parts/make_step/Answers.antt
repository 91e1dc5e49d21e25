-- A plain instruction is executed, and its event is counted.
use Rattle.std.specs.Vec.{with_item}
use Rattle.mach_types.specs.declared.events.Choice.TheVariants as asked
use Rattle.mach_types.specs.declared.events.Kind.TheVariants as kind
use Rattle.process.proofs.Common.{IsNextStep, IsPlace, IsUncounted, Ok, Stand, answered, ap, done_of, entry_in, here_at, rules, sym, ◌+◌, ◌∙◌}
use Rattle.process.proofs.Entries.{entry_here}
use Rattle.process.proofs.Places.{hart_is}
use Rattle.process.proofs.PlainSteps.{plain_executed}
use Rattle.process.proofs.parts.Parts.make_step.Goals.{After-take_step}
use Rattle.process.proofs.parts.Parts.make_step.Goals as goal

executed : (c : After-take_step) (v : Stand) → IsPlace v c.args.self.now c.args.hart.0 → IsNextStep v c.args.self.now c.args.hart.0 c.args.step
    → IsUncounted v c.args.hart.0 (done_of asked.Exec (here_at v c.args.hart.0)) c.args.self.now (record c.args.self.now {
      harts = with_item c.args.self.now.harts c.args.hart.0 (record c.take_step.new.state { ran = c.take_step.new.state.ran + 1 });
    })
executed c v place next =
    plain_executed v c.args.self.now c.args.hart c.index_mut-state.result.now c.take_step.new.state c.args.step place next c.index_mut-state.ensures.value c.take_step.ensures

pub take_step-requires : goal.take_step-requires
take_step-requires c =
    let next = c.requires in
    rw (hart_is next.stand c.args.self.now c.args.hart.0 c.index_mut-state.result.now next.place c.index_mut-state.ensures.value) next.next.plain.fits

pub count-requires : goal.count-requires
count-requires c = (executed (goal.at.count-requires c).After-take_step c.requires.stand c.requires.place c.requires.next).room

pub returns-clause-answer : goal.returns-clause-answer
returns-clause-answer c v place next =
    ap Ok (c.entry_of-made.ensures ∙ entry_here v c.args.self.now c.args.hart kind.Exec c.index_mut-state.result.now place c.index_mut-state.ensures.value)
    ∙ ap (answered (entry_in asked.Exec (here_at v c.args.hart.0))) (sym next.plan.free)

pub returns-clause-after : goal.returns-clause-after
returns-clause-after c v place next = (executed (goal.at.returns-clause-after c).After-take_step v place next).after c.count.new.self (search rules)
