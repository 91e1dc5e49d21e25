use Rattle.machine_core.proofs.Common.{◌≡◌, ◌++◌, [], ◌∷◌, sym, ◌∙◌, IsChosen, Seen, past_of, seen, setting_of, chosen_more, subst}
use Rattle.machine_core.proofs.AdvanceAnswers.{answers_ended, answers_next, answers_past}
use Rattle.machine_core.proofs.machine.Machine.advance.Goals as goal

pub returns-then-has_ended-clause-answer : goal.returns-then-has_ended-clause-answer
returns-then-has_ended-clause-answer c =
    let m = c.self.inside in
    rw (← c.self.view_is) (answers_ended (setting_of m) m.seed c.args.hart.0 (past_of m) (rw (← c.self.view_is) at (sym c.has_ended.ensures.answer ∙ c.if-has_ended.true)))

pub returns-then-hart-self-clause-answer : goal.returns-then-hart-self-clause-answer
returns-then-hart-self-clause-answer c =
    let m = c.self.inside in
    rw (← c.self.view_is) (answers_past (setting_of m) m.seed c.args.hart.0 (past_of m) (rw (← c.self.view_is) at (sym c.has_ended.ensures.answer ∙ c.if-has_ended.false)) c.if-hart-self.true)

pub returns-in-Some-clause-answer : goal.returns-in-Some-clause-answer
returns-in-Some-clause-answer c =
    rw (← c.self.view_is) (answers_next (setting_of c.self.inside) c.self.inside.seed c.args.hart.0 (past_of c.self.inside) c.in-Some.entry
    (rw (← c.self.view_is) at (sym c.has_ended.ensures.answer ∙ c.if-has_ended.false)) (rw (← c.self.view_is) at c.in-Some.ensures.next))

pub returns-in-Some-clause-chosen : goal.returns-in-Some-clause-chosen
returns-in-Some-clause-chosen c =
    let m = c.self.inside in
    let e = c.in-Some.entry in
    let whole : c.execute_on_credit.new.self ≡ record (seen m) { log = m.log.items ++ e ∷ [] } = rw (← c.self.view_is) at c.in-Some.ensures.log in
    subst (λ (v : Seen). IsChosen v.setting v.seed v.log) (sym whole)
    (chosen_more (setting_of m) m.seed m.log.items c.args.hart.0 e c.self.invariant.run (rw (← c.self.view_is) at c.requires.chosen) (rw (← c.self.view_is) at c.in-Some.ensures.next)).1
