use Rattle.std.proofs.Common.{◌<◌, ◌∙◌, length, nat_eq, slice_get, ap, sym, arith}
use Rattle.std.proofs.lemmas.Bool.{OnTrue_from, and_parts, eqb-true}
use Rattle.page_map.specs.Map.{Map}
use Rattle.page_map.proofs.Maps.{slice_get-read}
use Rattle.page_map.proofs.map.PageMap.has_at.Goals as goal

pub returns : goal.returns
returns c = OnTrue_from c.has.result _ (λ yes.
    let was = c.self.inside in
    let page = c.index-page.result.now in
    let within : c.args.place < length was.mapped.items = omega (arith, was.mapped.ok.0, c.len.ensures) in
    let both = and_parts (nat_eq page.number c.args.number) (nat_eq page.permission c.args.permission) (sym c.has.ensures ∙ yes) in
    record {
      page = page;
      there = ap (λ (m : Map). slice_get m.mapped c.args.place) (sym c.self.view_is)
          ∙ slice_get-read was.mapped.items c.args.place page c.index-page.ensures within;
      number = eqb-true page.number c.args.number both.0;
      permission = eqb-true page.permission c.args.permission both.1;
    })
