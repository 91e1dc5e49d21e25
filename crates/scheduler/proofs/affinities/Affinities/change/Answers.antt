use Rattle.scheduler.proofs.Marked.{marked_change}
use Rattle.scheduler.proofs.affinities.Affinities.change.Goals as goal

pub invariant_of-self : goal.invariant_of-self
invariant_of-self c =
    let own = c.self.inside in
    marked_change own.rising c.args.tid c.args.set own.entries.items c.change_at.new.entries.items c.self.invariant c.change_at.ensures
