use Rattle.std.proofs.Common.{◌<◌, ◌^◌, ◌≡◌, ◌++◌, ap, sym, subst}
use Rattle.block_model.specs.Choosing.{IsChosen, advance_at}
use Rattle.block_model.specs.Deciding.{history}
use Rattle.block_model.specs.Setting.{Seen}
use Rattle.block_model.proofs.Laws.{within_limit}
use Rattle.machine_core.specs.Advancing.{made_in}
use Rattle.rule_runs.specs.Sharing.{start_in}
use Rattle.rule_runs.proofs.Chosen.{advanced}
use Rattle.rule_runs.proofs.shared.SharedChronicle.advance.Goals as goal

pub invariant_of-self : goal.invariant_of-self
unfolding IsChosen
invariant_of-self c = record {
  few = within_limit c.advance.new.self.setting c.advance.new.self.log c.advance.ensures.block_run;
  small = subst (λ (v : Seen). v.setting.limits.steps < 2 ^ 32) (sym c.advance.ensures.log)
      (subst (λ (v : Seen). v.setting.limits.steps < 2 ^ 32) (sym c.deref_mut.ensures.value) c.args.self.now.small);
  chosen = c.advance.ensures.chosen;
}

pub returns-clause-advanced : goal.returns-clause-advanced
returns-clause-advanced c =
    let m = c.args.self.now.machine.value in
    advanced (start_in c.args.self.now) m.log c.args.hart c.advance.result c.advance.new.self.log
    (subst (λ (v : Seen). c.advance.result ≡ advance_at v.setting v.seed c.args.hart.0 (history v.setting v.log)) c.deref_mut.ensures.value
    c.advance.ensures.answer)
    (subst (λ (v : Seen). c.advance.new.self.log ≡ v.log ++ made_in c.advance.result) c.deref_mut.ensures.value
    (ap (λ (v : Seen). v.log) c.advance.ensures.log))
