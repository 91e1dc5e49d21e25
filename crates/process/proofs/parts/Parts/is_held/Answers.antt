use Rattle.process.proofs.Common.{◌≡◌, sym, ap, ◌∙◌, not, ◌&&◌, list_any, HartState, file_on, here_at, lies_waiting_on, lies_outside, call_number, taken_by}
use Rattle.process.proofs.HartStates.{hart_tied}
use Rattle.process.proofs.ExecGates.{held_is}
use Rattle.process.proofs.parts.Parts.is_held.Goals as goal

pub returns-then-is_inside : goal.returns-then-is_inside
returns-then-is_inside c v t tied lt shared at =
    let here = here_at v c.args.hart.0 in
    let inside = sym (c.is_inside.ensures v.setting v.plain t tied lt at) ∙ c.if-is_inside.true in
    ap (λ b. not b && lies_waiting_on v.beside (taken_by (call_number here t) here t) here.waiting here.setting.limits.harts) (sym inside)

pub returns : goal.returns
returns c v t tied lt shared at =
    let here = here_at v c.args.hart.0 in
    let x = c.index-state.result.now in
    let taken = c.pages_taken-taken.result in
    let own = hart_tied v.setting v.plain c.args.self.now c.args.hart.0 x tied lt c.index-state.ensures in
    let file : x.file ≡ (here.file t).file = ap (λ (y : HartState). y.file) own ∙ ap (λ o. (file_on here o).file) at in
    let outside = sym (c.is_inside.ensures v.setting v.plain t tied lt at) ∙ c.if-is_inside.false in
    c.waits_in_any.ensures
    ∙ ap (list_any (λ (y : HartState). list_any (lies_outside taken c.args.segment) y.buffer)) c.deref.ensures.value
    ∙ held_is v c.args.self.now taken c.args.segment (taken_by (call_number here t) here t) x tied (c.pages_taken-taken.ensures here t tied.pages file) shared
    ∙ ap (λ b. not b && lies_waiting_on v.beside (taken_by (call_number here t) here t) here.waiting here.setting.limits.harts) (sym outside)
