use Rattle.std.proofs.Common.{◌&&◌, ◌%◌, ◌^◌, ℕ, List, eqb, ◌∙◌, ap}
use Rattle.std.specs.List.{list_any}
use Rattle.mach_types.specs.Kernel.Scheduling.{Scheduling, affinity_of, has_hart}
use Rattle.scheduler.specs.Entries.{is_only_for}
use Rattle.scheduler.proofs.Copies.{any_copy}
use Rattle.scheduler.proofs.ready.Ready.has_only_for.Goals as goal

pub returns : goal.returns
returns c =
    c.is_any_only_for.ensures
    ∙ ap (λ (es : List (ℕ × ℕ)). list_any (is_only_for c.args.hart.0 c.args.barred) es) c.deref.ensures.0
    ∙ any_copy c.args.hart.0 c.args.barred c.self.inside.affinities c.self.inside.order.items c.self.invariant.sets
    ∙ ap (λ (s : Scheduling). list_any (λ t. has_hart (affinity_of t s) c.args.hart.0 && eqb (affinity_of t s % 2 ^ c.args.barred) 0) s.order) c.self.view_is
