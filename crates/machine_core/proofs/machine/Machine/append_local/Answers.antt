use Rattle.machine_core.proofs.Common.{◌-◌, sym, ap, ◌∙◌, arith, HartState, past_of, setting_of, stretch_of, history, is_lent, length-history}
use Rattle.machine_core.proofs.StretchAppends.{appended_is, has_room, makes}
use Rattle.machine_core.proofs.machine.Machine.append_local.Goals as goal

pub hart-requires : goal.hart-requires
hart-requires c = (is_lent c.args.self.now.setting c.args.self.now.seed c.args.hart.0 (history c.args.self.now.setting c.requires.fits.lent_at) c.requires.fits.first c.requires.fits.began).lt

pub overflow_cast-room : goal.overflow_cast-room
overflow_cast-room c =
    let room = has_room c.self.inside (rw (← c.self.view_is) at (sym c.has_ended.ensures.answer ∙ c.if-has_ended.false)) in
    omega (arith, room, c.self.invariant.limits.most_steps, c.len.ensures, c.self.inside.log.ok.0)

pub overflow_sub-room : goal.overflow_sub-room
overflow_sub-room c =
    let room = has_room c.self.inside (rw (← c.self.view_is) at (sym c.has_ended.ensures.answer ∙ c.if-has_ended.false)) in
    omega (arith, room, c.len.ensures, c.self.inside.log.ok.0)

pub advance_often-requires-clause-makes : goal.advance_often-requires-clause-makes
advance_often-requires-clause-makes c =
    let m = c.self.inside in
    let goes = rw (← c.self.view_is) at (sym c.has_ended.ensures.answer ∙ c.if-has_ended.false) in
    let same = sym (ap (λ (y : HartState). y.events) (rw (← c.self.view_is) at c.hart.ensures)) ∙ c.if-hart-stretch.false in
    let room = has_room m goes in
    rw (← c.self.view_is) (makes m c.args.hart (stretch_of c.args.stretch) (m.limits.steps - c.len.result) c.self.invariant (rw (← c.self.view_is) at c.requires.chosen)
    (rw (← c.self.view_is) at c.requires.fits) goes same (omega (arith, c.if-room-count.true, c.len-count.ensures.value)) (omega (arith, room, c.len.ensures, m.log.ok.0)))

pub returns-then-room-count-clause-count : goal.returns-then-room-count-clause-count
returns-then-room-count-clause-count c =
    let m = c.self.inside in
    let goes = rw (← c.self.view_is) at (sym c.has_ended.ensures.answer ∙ c.if-has_ended.false) in
    let same = sym (ap (λ (y : HartState). y.events) (rw (← c.self.view_is) at c.hart.ensures)) ∙ c.if-hart-stretch.false in
    let room = has_room m goes in
    let long = length-history (setting_of m) m.log.items in
    rw (← c.self.view_is) (omega (arith, c.if-room-count.true, c.len-count.ensures.value, c.len.ensures, m.log.ok.0, long)
    ∙ sym (appended_is (setting_of m) c.args.hart.0 (past_of m) (stretch_of c.args.stretch) (sym c.is_empty.ensures ∙ c.if-is_empty.false) goes same))

pub returns-else-room-count-clause-count : goal.returns-else-room-count-clause-count
returns-else-room-count-clause-count c =
    let m = c.self.inside in
    let goes = rw (← c.self.view_is) at (sym c.has_ended.ensures.answer ∙ c.if-has_ended.false) in
    let same = sym (ap (λ (y : HartState). y.events) (rw (← c.self.view_is) at c.hart.ensures)) ∙ c.if-hart-stretch.false in
    let long = length-history (setting_of m) m.log.items in
    rw (← c.self.view_is) (omega (arith, c.if-room-count.false, c.len-count.ensures.value, c.len.ensures, m.log.ok.0, long)
    ∙ sym (appended_is (setting_of m) c.args.hart.0 (past_of m) (stretch_of c.args.stretch) (sym c.is_empty.ensures ∙ c.if-is_empty.false) goes same))
