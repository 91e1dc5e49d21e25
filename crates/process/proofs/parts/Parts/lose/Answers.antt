use Rattle.process.proofs.Common.{◌≡◌, length, eqb, sym, ap, ◌∙◌, slice_get, option_map, with_items_is, lost_unless}
use Rattle.process.proofs.parts.Parts.lose.Goals as goal

pub returns-clause-harts : goal.returns-clause-harts
returns-clause-harts c = λ k.
    let harts = c.args.self.now.harts in
    let long : length c.lose_others.new.harts ≡ harts.len = c.lose_others.auto.harts ∙ (ap length c.deref_mut.ensures.value ∙ sym harts.ok.0) in
    ap (λ xs. slice_get xs k) (with_items_is harts c.lose_others.new.harts long)
    ∙ (c.lose_others.ensures k ∙ ap (λ xs. option_map (lost_unless (eqb k c.args.hart.0) c.args.writes.now) (slice_get xs k)) c.deref_mut.ensures.value)
