use Rattle.std.proofs.Common.{◌≡◌, ◌∙◌, length, ap, arith}
use Rattle.block_model.specs.Setting.{Seen}
use Rattle.rule_runs.proofs.shared.SharedChronicle.made.Goals as goal

pub overflow_cast-result : goal.overflow_cast-result
overflow_cast-result c =
    let m = c.args.self.now in
    let same : length c.log.result.now ≡ length m.machine.value.log = ap length (c.log.ensures ∙ ap (λ (v : Seen). v.log) c.deref.ensures) in
    let few = m.few in
    let small = m.small in
    grind (arith, same, few, small)
