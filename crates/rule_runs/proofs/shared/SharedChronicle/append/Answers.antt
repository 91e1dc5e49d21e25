use Rattle.std.proofs.Common.{◌<◌, ◌^◌, ◌≡◌, Some, sym, subst}
use Rattle.block_model.specs.Choosing.{IsChosen}
use Rattle.block_model.specs.Setting.{Seen, Setting}
use Rattle.block_model.specs.Stretches.{advanced}
use Rattle.block_model.proofs.Laws.{within_limit}
use Rattle.rule_runs.specs.Sharing.{start_in}
use Rattle.rule_runs.proofs.Stretches.{adds_advanced}
use Rattle.rule_runs.proofs.shared.SharedChronicle.append.Goals as goal

pub invariant_of-self : goal.invariant_of-self
unfolding IsChosen
invariant_of-self c = record {
  few = within_limit c.append_local.new.self.setting c.append_local.new.self.log c.append_local.ensures.block_run;
  small = subst (λ (s : Setting). s.limits.steps < 2 ^ 32) (sym c.append_local.ensures.setting)
      (subst (λ (v : Seen). v.setting.limits.steps < 2 ^ 32) (sym c.deref_mut.ensures.value) c.args.self.now.small);
  chosen = c.append_local.ensures.chosen;
}

pub returns-clause-appended : goal.returns-clause-appended
returns-clause-appended c =
    let m = c.args.self.now.machine.value in
    adds_advanced (start_in c.args.self.now) c.args.hart c.append_local.result m.log c.append_local.new.self.log
    (subst (λ (v : Seen). advanced v.setting v.seed c.args.hart.0 c.append_local.result v.log ≡ Some c.append_local.new.self.log)
    c.deref_mut.ensures.value c.append_local.ensures.log)
