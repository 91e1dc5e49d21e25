use Rattle.process.proofs.Common.{◌≡◌, ◌∙◌, List, ap, arith, length, map, vec_len, length-map, with_items_is, lost_by_all, HartState}
use Rattle.process.proofs.parts.Parts.lose_all.Goals as goal

pub returns-clause-harts : goal.returns-clause-harts
returns-clause-harts c =
    let were = c.args.self.now.harts in
    let change = lost_by_all c.args.writes.now in
    let is : c.lose_everywhere.new.harts ≡ map change were.items =
    c.lose_everywhere.ensures ∙ ap (λ (harts : List HartState). map change harts) c.deref_mut.ensures.value in
    let long : length c.lose_everywhere.new.harts ≡ vec_len were =
    omega (arith, ap length is, length-map were.items change, were.ok.0) in
    with_items_is were c.lose_everywhere.new.harts long ∙ is
