use Rattle.shared_procs.proofs.Common.{cond, sym, ap, ◌∙◌, running_harts}
use Rattle.shared_procs.proofs.half.threads_beside.Goals as goal

pub returns-then-goes_on : goal.returns-then-goes_on
returns-then-goes_on c s p tied few =
    c.threads_on.ensures s p tied few
    ∙ ap (λ b. cond b (running_harts p.kernel.threads s.limits.harts) 0) (sym (sym (c.goes_on.ensures s p tied) ∙ c.if-goes_on.true))

pub returns-else-goes_on : goal.returns-else-goes_on
returns-else-goes_on c s p tied few =
    ap (λ b. cond b (running_harts p.kernel.threads s.limits.harts) 0) (sym (sym (c.goes_on.ensures s p tied) ∙ c.if-goes_on.false))
