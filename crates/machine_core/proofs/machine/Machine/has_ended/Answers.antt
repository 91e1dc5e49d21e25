use Rattle.machine_core.proofs.Common.{sym, ◌∙◌}
use Rattle.machine_core.proofs.AdvanceAnswers.{ended_by_room, over_ended}
use Rattle.machine_core.proofs.machine.Machine.has_ended.Goals as goal

pub returns-then-is_some-clause-answer : goal.returns-then-is_some-clause-answer
returns-then-is_some-clause-answer c =
    rw (← c.self.view_is) (c.if-is_some.true ∙ sym (over_ended c.self.inside c.self.invariant (sym c.is_some.ensures ∙ c.if-is_some.true)))

pub returns-else-is_some-clause-answer : goal.returns-else-is_some-clause-answer
returns-else-is_some-clause-answer c =
    let m = c.self.inside in
    rw (← c.self.view_is) (ended_by_room m c.len.result c.self.invariant (sym c.if-is_some.false ∙ c.is_some.ensures) (c.len.ensures ∙ m.log.ok.0))
