-- What the area of a hart's thread names.
use Rattle.machine_core.proofs.Common.{ap, ◌∙◌, plain_seen, seen, setting_of, same_here}
use Rattle.process.specs.Sequences.{named_on}
use Rattle.machine_core.proofs.machine.Machine.named.Goals as goal

pub returns : goal.returns
returns c =
    let m = c.self.inside in
    rw (← c.self.view_is) (c.named.ensures (setting_of m) (plain_seen (seen m)) c.self.invariant.tied (rw (← c.self.view_is) at c.requires)
    ∙ ap named_on (same_here (seen m) c.args.hart.0 c.self.invariant.run))
