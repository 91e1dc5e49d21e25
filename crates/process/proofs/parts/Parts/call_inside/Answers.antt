use Rattle.process.proofs.Common.{◌+◌, None, arith, refl, sym, HartState, by_call, counted, here_at, killed_in_call}
use Rattle.mach_types.specs.declared.events.Choice.TheVariants as asked
use Rattle.process.proofs.Entries.{killed_as}
use Rattle.process.proofs.ExecEvent.{done_inside}
use Rattle.process.proofs.HartEvents.{inside_own}
use Rattle.process.proofs.Places.{hart_is, ran_fits}
use Rattle.process.proofs.parts.Parts.call_inside.Goals as goal

pub overflow_add-state : goal.overflow_add-state
overflow_add-state c = let plan = c.requires.plan in let few = ran_fits plan.stand c.args.self.now c.args.hart.0 c.index_mut-state.result.now plan.place c.index_mut-state.ensures.value in omega (arith, few)

pub returns : goal.returns
returns c v place plan =
    let h = c.args.hart.0 in
    let x = c.index_mut-state.result.now in
    let t = plan.thread in
    let z : HartState = record x { reserved = None; ran = x.ran + 1 } in
    killed_as v h asked.Exec (by_call (here_at v h) (killed_in_call (here_at v h))) c.args.self.now _ z place plan.free
    (done_inside (here_at v h) t plan.at (sym plan.fault) (sym plan.effect) (c.requires.inside v t place plan.at)) (record { none_begun = refl; none_taken = refl }) refl refl refl refl refl
    (inside_own _ v.setting v.plain h t x (counted z) (hart_is v c.args.self.now h x place c.index_mut-state.ensures.value) plan.at refl)
