use Rattle.machine_core.proofs.Common.{◌++◌, ◌∷◌, [], sym, subst, arith, HartState, setting_of, with_item}
use Rattle.machine_core.proofs.CreditSteps.{gone_on}
use Rattle.machine_core.proofs.MachineCredits.{IsSettled, machine_so}
use Rattle.machine_core.proofs.StretchAppends.{counts_fit, has_room}
use Rattle.machine_core.proofs.machine.Machine.execute_on_credit.Goals as goal

pub go_on_credit-requires-clause-ran : goal.go_on_credit-requires-clause-ran
go_on_credit-requires-clause-ran c =
    let room = has_room c.self.inside (rw (← c.self.view_is) at c.requires.goes) in
    (counts_fit c.self.inside c.args.hart c.index_mut-state.result.now 1 c.self.invariant (rw (← c.self.view_is) at c.requires.hart) c.index_mut-state.ensures.value (omega (arith, room))).0

pub go_on_credit-requires-clause-events : goal.go_on_credit-requires-clause-events
go_on_credit-requires-clause-events c =
    let room = has_room c.self.inside (rw (← c.self.view_is) at c.requires.goes) in
    (counts_fit c.self.inside c.args.hart c.index_mut-state.result.now 1 c.self.invariant (rw (← c.self.view_is) at c.requires.hart) c.index_mut-state.ensures.value (omega (arith, room))).1

pub append-requires : goal.append-requires
append-requires c =
    let room = has_room c.self.inside (rw (← c.self.view_is) at c.requires.goes) in
    omega (arith, room, c.self.invariant.room, c.self.inside.log.ok.0)

pub invariant_of-self : goal.invariant_of-self
invariant_of-self c =
    let m = c.self.inside in
    let h = c.args.hart in
    let e = c.in-Some.entry in
    let is = gone_on m h c.index_mut-state.result.now e c.self.invariant (rw (← c.self.view_is) at c.requires.chosen) (rw (← c.self.view_is) at c.requires.goes)
    (rw (← c.self.view_is) at c.requires.hart) c.index_mut-state.ensures.value c.in-Some.ensures.entry c.in-Some.ensures.waits c.in-Some.ensures.goes in
    let set = subst (λ (y : HartState). IsSettled (setting_of m) m.seed (m.log.items ++ e ∷ []) (record m.parts { harts = with_item m.parts.harts h.0 y }) m.chooser m.chosen)
    (sym c.in-Some.ensures.state) is.settled in
    machine_so _ (m.log.items ++ e ∷ []) c.append.ensures.items is.run set c.self.invariant.limits (omega (arith, c.self.invariant.room, c.append.ensures.capacity))

pub returns-in-Some-clause-next : goal.returns-in-Some-clause-next
returns-in-Some-clause-next c =
    let m = c.self.inside in
    rw (← c.self.view_is) (gone_on m c.args.hart c.index_mut-state.result.now c.in-Some.entry c.self.invariant (rw (← c.self.view_is) at c.requires.chosen)
    (rw (← c.self.view_is) at c.requires.goes) (rw (← c.self.view_is) at c.requires.hart) c.index_mut-state.ensures.value c.in-Some.ensures.entry c.in-Some.ensures.waits
    c.in-Some.ensures.goes).next

pub returns-in-Some-clause-block_run : goal.returns-in-Some-clause-block_run
returns-in-Some-clause-block_run c =
    let m = c.self.inside in
    rw c.append.ensures.items (gone_on m c.args.hart c.index_mut-state.result.now c.in-Some.entry c.self.invariant (rw (← c.self.view_is) at c.requires.chosen)
    (rw (← c.self.view_is) at c.requires.goes) (rw (← c.self.view_is) at c.requires.hart) c.index_mut-state.ensures.value c.in-Some.ensures.entry c.in-Some.ensures.waits
    c.in-Some.ensures.goes).run
