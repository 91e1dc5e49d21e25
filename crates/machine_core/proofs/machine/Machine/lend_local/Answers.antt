use Rattle.machine_core.proofs.Common.{ap, sym, ◌∙◌, IsChosen, events, hart_in, here_in_history, past_of, ran, setting_of}
use Rattle.machine_core.proofs.AdvanceAnswers.{all_of}
use Rattle.machine_core.proofs.ChoiceCredits.{credit_read}
use Rattle.machine_core.proofs.StretchLending.{ended_lends_none, lent_is, past_lends_none}
use Rattle.machine_core.proofs.machine.Machine.lend_local.Goals.{then-has_ended-via-then-has_ended, then-has_ended-via-else-has_ended+then-hart-self}
use Rattle.machine_core.proofs.machine.Machine.lend_local.Goals as goal

pub returns-then-has_ended : goal.returns-then-has_ended
returns-then-has_ended c =
    let m = c.self.inside in
    let h = c.args.hart.0 in
    rw (← c.self.view_is) (elim c.then-has_ended.branch [
      | then-has_ended-via-then-has_ended w ↦ ended_lends_none (setting_of m) m.seed h (past_of m) (rw (← c.self.view_is) at (sym c.has_ended.ensures.answer ∙ w.if-has_ended.true))
      | then-has_ended-via-else-has_ended+then-hart-self w ↦ past_lends_none (setting_of m) m.seed h (past_of m) w.if-hart-self.true
    ])

pub returns : goal.returns
returns c =
    let m = c.self.inside in
    let h = c.args.hart.0 in
    let chosen : IsChosen (setting_of m) m.seed m.log.items = rw (← c.self.view_is) at c.requires.chosen in
    let shown = credit_read (setting_of m) m.seed (past_of m) h (all_of (setting_of m) m.seed m.log.items chosen) in
    let here = rw (← c.self.view_is) at c.hart.ensures in
    let goes = rw (← c.self.view_is) at (sym c.has_ended.ensures.answer ∙ c.if-has_ended.false) in
    rw (← c.self.view_is) (c.stretch_on.ensures
    ∙ lent_is (setting_of m) m.seed h (past_of m) c.hart.result.now
    (here ∙ ap (hart_in (here_in_history (setting_of m) (past_of m) h) (ran h (past_of m)) (events h (past_of m))) shown)
    goes c.if-hart-self.false)
