-- At which bytes the check of the area of a hart's thread looks.
use Rattle.machine_core.proofs.Common.{ap, ◌∙◌, plain_seen, same_here, seen, setting_of}
use Rattle.process.specs.Sequences.{looked_at_on}
use Rattle.machine_core.proofs.machine.Machine.looked_at.Goals as goal

pub returns : goal.returns
returns c =
    let m = c.self.inside in
    rw (← c.self.view_is) (c.looked_at.ensures (setting_of m) (plain_seen (seen m)) c.self.invariant.tied (rw (← c.self.view_is) at c.requires)
    ∙ ap looked_at_on (same_here (seen m) c.args.hart.0 c.self.invariant.run))
