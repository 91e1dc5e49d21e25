-- How the pair ends, by what is kept of both processes, and by the length of its log.
use Rattle.shared_procs.specs.declared.outcomes.PairEnd.TheVariants.{Done, Stuck, Limit, Unended}
use Rattle.shared_procs.proofs.Common.{◌≡◌, ◌&&◌, cond, is_some, ◌∙◌, pair_history, pair_seen, seen, setting_of}
use Rattle.shared_procs.proofs.PairEnds.{both_tell, never_stuck}
use Rattle.shared_procs.proofs.pair.Pair.end.Goals as goal

pub returns : goal.returns
returns c =
    let m = c.self.inside in
    let tied = c.self.invariant.tied in
    let both : c.have_ended-both.result ≡ (is_some (pair_seen c.args.self.now).first.ended && is_some (pair_seen c.args.self.now).second.ended) =
    rw (← c.self.view_is)
    (c.have_ended-both.ensures
    ∙ both_tell (pair_seen (seen m)) m.first.parts.ended m.second.parts.ended (never_stuck (setting_of m) (pair_history (setting_of m) m.log.items) c.self.invariant.run)
    tied.first.ended tied.second.ended) in
    c.end_where.ensures ∙ (λ i. cond (both i) Done (cond (c.is_over-is_over.ensures i) Stuck (cond (c.is_full-is_full.ensures i) Limit Unended)))
