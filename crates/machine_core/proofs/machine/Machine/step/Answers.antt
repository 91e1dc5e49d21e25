use Rattle.machine_core.proofs.Common.{sym, ap, ◌∙◌, seen_if, history}
use Rattle.machine_core.proofs.AdvanceAnswers.{chosen_of}
use Rattle.machine_core.proofs.machine.Machine.step.Goals as goal

pub step_chosen-requires-clause-chosen : goal.step_chosen-requires-clause-chosen
step_chosen-requires-clause-chosen c =
    chosen_of c.args.self.now.setting c.args.self.now.seed c.args.self.now.log (sym c.if-is_chosen.true ∙ c.is_chosen.ensures)

pub step_seen-requires-clause-sight : goal.step_seen-requires-clause-sight
step_seen-requires-clause-sight c =
    let v = c.args.self.now in
    ap (λ b. seen_if b v.setting v.seed c.args.hart.0 (history v.setting v.log)) (sym c.if-is_chosen.false ∙ c.is_chosen.ensures)
