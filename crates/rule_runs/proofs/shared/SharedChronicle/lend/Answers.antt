use Rattle.std.proofs.Common.{◌≡◌, subst}
use Rattle.std.specs.Option.{option_map}
use Rattle.block_model.specs.Deciding.{history}
use Rattle.block_model.specs.Setting.{Seen}
use Rattle.block_model.specs.Stretches.{lent}
use Rattle.machine_core.specs.Stretches.{stretch_of}
use Rattle.rule_runs.proofs.Stretches.{stretches_lent}
use Rattle.rule_runs.proofs.shared.SharedChronicle.lend.Goals as goal

pub returns-clause-fits : goal.returns-clause-fits
returns-clause-fits c =
    let m = c.args.self.now.machine.value in
    stretches_lent m.setting m.seed c.args.hart.0 m.log c.lend_local.result
    (subst (λ (v : Seen). option_map stretch_of c.lend_local.result ≡ lent v.setting v.seed c.args.hart.0 (history v.setting v.log))
    c.deref.ensures c.lend_local.ensures)
