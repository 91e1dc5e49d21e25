use Rattle.scheduler.proofs.Marked.{marked_remove}
use Rattle.scheduler.proofs.affinities.Affinities.remove.Goals as goal

pub invariant_of-self : goal.invariant_of-self
invariant_of-self c =
    let own = c.self.inside in
    marked_remove own.rising c.args.tid own.entries.items c.remove_at.new.entries.items c.self.invariant c.remove_at.ensures
