use Rattle.mach_types.specs.Kernel.Barriers.{harts_that}
use Rattle.process.specs.Barriers.{is_busy}
use Rattle.process.proofs.PairLaws.{running_tied}
use Rattle.shared_procs.proofs.Common.{List, ap, ◌∙◌, HartState}
use Rattle.shared_procs.proofs.half.threads_on.Goals as goal

pub returns : goal.returns
returns c s p tied few =
    c.running_harts.ensures
    ∙ ap (λ (xs : List HartState). harts_that (is_busy xs) 8) c.deref.ensures.value
    ∙ running_tied s p c.args.parts.now tied few
