-- The mask is changed where a set is given.
use Rattle.sys_calls.proofs.Common.{ℕ, eqb, sym, ap, ◌∙◌, ne_eqb, mask_of, cond-false, changed_mask, with_mask}
use Rattle.sys_calls.proofs.signal_calls.change_mask.Goals as goal

pub returns-in-Ok : goal.returns-in-Ok
returns-in-Ok c =
    let g = c.args.signals.now in
    c.in-Ok.ensures.ok ∙ ap (λ (n : ℕ). with_mask c.args.tid.0 (changed_mask c.args.how n (mask_of c.args.tid.0 g)) g) c.number_at-set.ensures
    ∙ sym (cond-false (eqb c.args.at 0) _ _ (ne_eqb c.args.at 0 c.if-at-ne0.true))
