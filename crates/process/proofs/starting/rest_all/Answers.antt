use Rattle.process.proofs.Common.{◌≡◌, ◌∙◌, List, ap, arith, length, map, vec_len, length-map, with_items_is, idle_hart, HartState}
use Rattle.process.proofs.starting.rest_all.Goals as goal

pub returns : goal.returns
returns c =
    let were = c.args.harts.now in
    let is : c.rest.new.harts ≡ map (λ _. idle_hart) were.items =
    c.rest.ensures ∙ ap (λ (harts : List HartState). map (λ (_ : HartState). idle_hart) harts) c.deref_mut.ensures.value in
    let long : length c.rest.new.harts ≡ vec_len were =
    omega (arith, ap length is, length-map were.items (λ (_ : HartState). idle_hart), were.ok.0) in
    with_items_is were c.rest.new.harts long ∙ is
