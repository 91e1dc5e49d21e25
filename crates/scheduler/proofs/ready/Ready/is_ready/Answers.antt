use Rattle.std.proofs.Common.{ℕ, List, ◌∙◌, ap}
use Rattle.std.specs.List.{list_any}
use Rattle.mach_types.specs.Kernel.Scheduling.{is_of}
use Rattle.scheduler.specs.Holding.{is_ready}
use Rattle.scheduler.proofs.Copies.{among_numbers}
use Rattle.scheduler.proofs.ready.Ready.is_ready.Goals as goal

pub returns : goal.returns
returns c =
    c.has.ensures ∙ ap (λ (es : List (ℕ × ℕ)). list_any (is_of c.args.tid.0) es) c.deref.ensures.0 ∙ among_numbers c.args.tid.0 c.self.inside.order.items
    ∙ ap (is_ready c.args.tid.0) c.self.view_is
