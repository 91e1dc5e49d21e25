use Rattle.machine_core.proofs.Common.{◌≡◌, ◌++◌, [], ◌∷◌, sym, ◌∙◌, None, Some, seen_if, subst, IfOk-at_ok, IsChosen, Seen, ap, entry_in, here_in_history, past_of, seen, setting_of, chosen_more}
use Rattle.machine_core.proofs.AdvanceAnswers.{answers_made, answers_none, machine_picks, all_of, never_err, same_entry, turn_picks}
use Rattle.machine_core.proofs.machine.Machine.advance_picked.Goals as goal

pub returns-in_default-clause-answer : goal.returns-in_default-clause-answer
returns-in_default-clause-answer c =
    let m = c.self.inside in
    let h = c.args.hart.0 in
    let chosen : IsChosen (setting_of m) m.seed m.log.items = rw (← c.self.view_is) at c.requires.chosen in
    let going = rw (← c.self.view_is) at c.requires.goes in
    let picked = machine_picks m h c.sight-sight.result None c.self.invariant (all_of (setting_of m) m.seed m.log.items chosen) (rw (← c.self.view_is) at c.requires.hart)
    (rw (← c.self.view_is) at c.sight-sight.ensures) (sym c.in_default.is ∙ c.peek.ensures) in
    rw (← c.self.view_is) (answers_none (setting_of m) m.seed h (past_of m) going (rw (← c.self.view_is) at c.requires.hart) picked)

pub step_seen-requires-clause-sight : goal.step_seen-requires-clause-sight
step_seen-requires-clause-sight c =
    let m = c.self.inside in
    let past = past_of m in
    let chosen : IsChosen (setting_of m) m.seed m.log.items = rw (← c.self.view_is) at c.requires.chosen in
    rw (← c.self.view_is) (ap Some (rw (← c.self.view_is) at c.sight-sight.ensures)
    ∙ ap (λ b. seen_if b (setting_of m) m.seed c.args.hart.0 past) (all_of (setting_of m) m.seed m.log.items chosen))

pub unreachable-requires : goal.unreachable-requires
unreachable-requires c =
    let is = turn_picks c.self.inside c.args.hart.0 c.sight-sight.result c.in-Some.pick c.self.invariant (rw (← c.self.view_is) at c.requires.chosen)
    (rw (← c.self.view_is) at c.requires.goes) (rw (← c.self.view_is) at c.requires.hart)
    (rw (← c.self.view_is) at c.sight-sight.ensures) (sym c.in-Some.is ∙ c.peek.ensures) in
    never_err _ _ (sym c.in-Err.is ∙ ((rw (← c.self.view_is) at c.step_seen.ensures.answer) ∙ is.decided))

pub returns-clause-answer : goal.returns-clause-answer
returns-clause-answer c =
    let m = c.self.inside in
    let h = c.args.hart.0 in
    let going = rw (← c.self.view_is) at c.requires.goes in
    let is = turn_picks m h c.sight-sight.result c.in-Some.pick c.self.invariant (rw (← c.self.view_is) at c.requires.chosen) going (rw (← c.self.view_is) at c.requires.hart)
    (rw (← c.self.view_is) at c.sight-sight.ensures) (sym c.in-Some.is ∙ c.peek.ensures) in
    rw (← c.self.view_is) (answers_made (setting_of m) m.seed h (past_of m) c.in-Some.pick c.in-Ok.entry going (rw (← c.self.view_is) at c.requires.hart) is.picked
    (same_entry _ _ (sym c.in-Ok.is ∙ ((rw (← c.self.view_is) at c.step_seen.ensures.answer) ∙ is.decided))))

pub returns-clause-chosen : goal.returns-clause-chosen
returns-clause-chosen c =
    let m = c.self.inside in
    let h = c.args.hart.0 in
    let chosen : IsChosen (setting_of m) m.seed m.log.items = rw (← c.self.view_is) at c.requires.chosen in
    let going = rw (← c.self.view_is) at c.requires.goes in
    let is = turn_picks m h c.sight-sight.result c.in-Some.pick c.self.invariant chosen going (rw (← c.self.view_is) at c.requires.hart)
    (rw (← c.self.view_is) at c.sight-sight.ensures) (sym c.in-Some.is ∙ c.peek.ensures) in
    let e = entry_in c.in-Some.pick.choice (here_in_history (setting_of m) (past_of m) h) in
    let same = same_entry _ _ (sym c.in-Ok.is ∙ ((rw (← c.self.view_is) at c.step_seen.ensures.answer) ∙ is.decided)) in
    let new = IfOk-at_ok (λ f. c.step_seen.new.self ≡ record (seen m) { log = m.log.items ++ f ∷ [] }) c.in-Ok.is (rw (← c.self.view_is) at c.step_seen.ensures.ok) in
    let whole : c.step_seen.new.self ≡ record (seen m) { log = m.log.items ++ e ∷ [] } = new ∙ ap (λ f. let v : Seen = record (seen m) { log = m.log.items ++ f ∷ [] } in v) same in
    subst (λ (v : Seen). IsChosen v.setting v.seed v.log) (sym whole) (chosen_more (setting_of m) m.seed m.log.items h e c.self.invariant.run chosen is.next).1
