use Rattle.std.proofs.Common.{ℕ, List, ap, ◌∙◌, ◌&&◌}
use Rattle.scheduler.specs.Entries.{is_last}
use Rattle.scheduler.proofs.Marked.{marked_add}
use Rattle.scheduler.proofs.affinities.Affinities.add.Goals as goal

pub invariant_of-self : goal.invariant_of-self
invariant_of-self c =
    let own = c.self.inside in
    marked_add own.rising c.stays_rising-self-inside.result c.args.tid c.args.set own.entries.items c.push.new.self.items c.self.invariant
    (c.stays_rising-self-inside.ensures ∙ ap (λ (es : List (ℕ × ℕ)). own.rising && is_last c.args.tid es) c.deref.ensures.0) c.push.ensures.items
