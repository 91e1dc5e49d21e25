-- The refusal of every choice of a hart.
use Rattle.machine_core.proofs.Common.{◌<◌, ◌≤◌, length, sym, ◌∙◌, arith, seen, after_end, at_limit, at_no_hart}
use Rattle.machine_core.proofs.MachineCredits.{machine_goes}
use Rattle.machine_core.proofs.machine.Machine.common_refusal.Goals as goal

pub returns-in-Some-clause-barred : goal.returns-in-Some-clause-barred
returns-in-Some-clause-barred c choice =
    let m = c.self.inside in
    rw (← c.self.view_is) (after_end (seen m) c.args.hart.0 choice c.in-Some.end c.self.invariant.run (sym c.self.invariant.tied.ended ∙ c.in-Some.is))

pub returns-then-len-self-clause-barred : goal.returns-then-len-self-clause-barred
returns-then-len-self-clause-barred c choice =
    let m = c.self.inside in
    let full : m.limits.steps ≤ length m.log.items = omega (arith, c.if-len-self.true, c.len.ensures, m.log.ok.0) in
    rw (← c.self.view_is) (at_limit (seen m) c.args.hart.0 choice c.self.invariant.run (sym c.self.invariant.tied.ended ∙ c.in_default.is) full)

pub returns-then-hart-self-clause-barred : goal.returns-then-hart-self-clause-barred
returns-then-hart-self-clause-barred c choice =
    let m = c.self.inside in
    let room : length m.log.items < m.limits.steps = omega (arith, c.if-len-self.false, c.len.ensures, m.log.ok.0) in
    rw (← c.self.view_is) (at_no_hart (seen m) c.args.hart.0 choice c.self.invariant.run (sym c.self.invariant.tied.ended ∙ c.in_default.is) room c.if-hart-self.true)

pub returns-clause-goes : goal.returns-clause-goes
returns-clause-goes c =
    let m = c.self.inside in
    let room : length m.log.items < m.limits.steps = omega (arith, c.if-len-self.false, c.len.ensures, m.log.ok.0) in
    rw (← c.self.view_is) (machine_goes m c.self.invariant c.in_default.is room)
