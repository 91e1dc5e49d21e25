-- Whether a signal can be delivered to the thread on a hart.
use Rattle.machine_core.proofs.Common.{◌<◌, ap, ◌∙◌, Here, here_of, plain_seen, runs, seen, setting_of, is_deliverable_on, stand_of, same_here, standing, has_signals}
use Rattle.machine_core.proofs.Sights.{deliverable_read}
use Rattle.machine_core.proofs.machine.Machine.has_signal.Goals as goal

pub deliverable-requires-clause-held : goal.deliverable-requires-clause-held
deliverable-requires-clause-held c =
    has_signals (stand_of (seen c.self.inside)) c.self.inside.parts c.args.hart.0 (standing (seen c.self.inside) c.self.invariant.run) c.self.invariant.tied (rw (← c.self.view_is) at c.requires)

pub returns : goal.returns
returns c =
    let m = c.self.inside in
    let h = c.args.hart.0 in
    let lt : h < m.limits.harts = rw (← c.self.view_is) at c.requires in
    let read = deliverable_read (here_of (seen m) h) c.deliverable.result c.is_some.result c.is_some.ensures (c.deliverable.ensures (setting_of m) (plain_seen (seen m)) c.self.invariant.tied lt) in
    rw (← c.self.view_is) (read ∙ ap (λ (z : Here). is_deliverable_on z (runs z)) (same_here (seen m) h c.self.invariant.run))
