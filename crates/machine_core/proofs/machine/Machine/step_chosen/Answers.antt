use Rattle.machine_core.proofs.Common.{ap, ◌∙◌, Some, seen_if, history}
use Rattle.machine_core.proofs.AdvanceAnswers.{all_of}
use Rattle.machine_core.proofs.machine.Machine.step_chosen.Goals as goal

pub step_seen-requires-clause-sight : goal.step_seen-requires-clause-sight
step_seen-requires-clause-sight c =
    let v = c.args.self.now in
    ap Some c.sight-seen.ensures
    ∙ ap (λ b. seen_if b v.setting v.seed c.args.hart.0 (history v.setting v.log)) (all_of v.setting v.seed v.log c.requires.chosen)
