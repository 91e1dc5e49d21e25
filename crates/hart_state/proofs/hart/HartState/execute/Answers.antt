use Rattle.std.proofs.Common.{sym, ap, ◌∙◌}
use Rattle.rv_inst.specs.declared.effects.Effect.{Effect}
use Rattle.hart_state.specs.State.{hart_after, outcome_on}
use Rattle.hart_state.proofs.hart.HartState.execute.Goals as goal

pub returns-in-Sc-clause-hart : goal.returns-in-Sc-clause-hart
returns-in-Sc-clause-hart g c =
    let byte = g.M.UserMem.byte c.args.mem.now in
    c.store_conditional.ensures.hart byte ∙ ap (λ (e : Effect). hart_after c.args.self.now (outcome_on c.args.self.now byte e)) (sym c.in-Sc.is)

pub returns-in-Sc-clause-entered : goal.returns-in-Sc-clause-entered
returns-in-Sc-clause-entered g c =
    let byte = g.M.UserMem.byte c.args.mem.now in
    ap (λ (e : Effect). (outcome_on c.args.self.now byte e).entered) c.in-Sc.is ∙ c.store_conditional.ensures.entered byte
