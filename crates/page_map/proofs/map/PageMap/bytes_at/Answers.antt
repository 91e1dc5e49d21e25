use Rattle.std.proofs.Common.{◌<◌, ◌∙◌, arith, length, ap, subst, sym}
use Rattle.std.specs.Vec.{vec_capacity}
use Rattle.page_map.specs.Map.{Map, page_in}
use Rattle.page_map.specs.Starting.{StandsWith}
use Rattle.page_map.proofs.TakenPages.{page-there, there-at}
use Rattle.page_map.proofs.Maps.{page-taken, shown}
use Rattle.page_map.proofs.map.PageMap.bytes_at.Goals as goal

pub index-page-requires : goal.index-page-requires
index-page-requires c =
    let within : c.args.place < length c.self.inside.mapped.items =
    subst (λ (m : Map). c.args.place < length m.mapped) (sym c.self.view_is) c.requires in
    omega (arith, c.self.inside.mapped.ok.0)

pub bytes-requires : goal.bytes-requires
bytes-requires c =
    page-taken (shown c.self.inside) (vec_capacity c.self.inside.mapped) c.self.invariant c.args.place c.index-page.result.now (there-at c.self.inside.mapped.items c.args.self.now.mapped c.args.place c.index-page.result.now (ap (λ (m : Map). m.mapped) c.self.view_is) c.index-page.ensures c.requires)

pub returns-clause-page : goal.returns-clause-page
returns-clause-page c n permission at =
    ap (λ (m : Map). page_in m n) (sym c.self.view_is)
    ∙ page-there (shown c.self.inside) (vec_capacity c.self.inside.mapped) c.self.invariant c.args.place n permission c.index-page.result.now c.bytes.result.now (there-at c.self.inside.mapped.items c.args.self.now.mapped c.args.place c.index-page.result.now (ap (λ (m : Map). m.mapped) c.self.view_is) c.index-page.ensures c.requires)
    (subst (λ (m : Map). StandsWith m.mapped c.args.place n permission) (sym c.self.view_is) at) c.bytes.ensures.bytes
