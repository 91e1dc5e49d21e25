use Rattle.shared_procs.proofs.Common.{None, cond, is_some, sym, ap, ◌∙◌, running_on}
use Rattle.shared_procs.proofs.PairTies.{busy_tells}
use Rattle.shared_procs.proofs.half.runs_on.Goals as goal

pub returns-then-goes_on : goal.returns-then-goes_on
returns-then-goes_on c s p tied lt =
    busy_tells s p c.args.parts.now c.args.hart.0 c.index-state.result.now c.is_idle.result tied lt c.index-state.ensures c.is_idle.ensures
    ∙ ap (λ b. is_some (cond b (running_on c.args.hart.0 p.kernel.threads) None)) (sym (sym (c.goes_on.ensures s p tied) ∙ c.if-goes_on.true))

pub returns-else-goes_on : goal.returns-else-goes_on
returns-else-goes_on c s p tied lt =
    c.if-goes_on.false
    ∙ ap (λ b. is_some (cond b (running_on c.args.hart.0 p.kernel.threads) None)) (sym (sym (c.goes_on.ensures s p tied) ∙ c.if-goes_on.false))
