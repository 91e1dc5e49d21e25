-- How the run ends: what ended it, or the step limit, or nothing.
use Rattle.machine_core.proofs.Common.{◌<◌, ◌≤◌, length, sym, ◌∙◌, arith, length-history, setting_of, end_of-ended, end_of-limit, end_of-open}
use Rattle.machine_core.proofs.Readings.{history_of, over_read}
use Rattle.machine_core.proofs.machine.Machine.end.Goals as goal

pub returns-in-Some : goal.returns-in-Some
returns-in-Some c =
    let m = c.self.inside in
    rw (← c.self.view_is) (sym (end_of-ended (setting_of m) (history_of m) c.in-Some.end (sym (over_read m c.self.invariant) ∙ c.in-Some.is)))

pub returns-in-None : goal.returns-in-None
returns-in-None c =
    let m = c.self.inside in
    let full : m.limits.steps ≤ length (history_of m) = omega (arith, length-history (setting_of m) m.log.items, c.len.ensures, m.log.ok.0) in
    rw (← c.self.view_is) (sym (end_of-limit (setting_of m) (history_of m) (sym (over_read m c.self.invariant) ∙ c.in-None.is) full))

pub returns-in-None-2 : goal.returns-in-None-2
returns-in-None-2 c =
    let m = c.self.inside in
    let room : length (history_of m) < m.limits.steps = omega (arith, length-history (setting_of m) m.log.items, c.len.ensures, m.log.ok.0) in
    rw (← c.self.view_is) (sym (end_of-open (setting_of m) (history_of m) (sym (over_read m c.self.invariant) ∙ c.in-None-2.is) room))
