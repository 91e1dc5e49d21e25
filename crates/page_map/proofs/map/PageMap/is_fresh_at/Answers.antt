use Rattle.std.proofs.Common.{◌<◌, ◌∙◌, arith, length, ap, subst, sym}
use Rattle.std.proofs.lemmas.Bool.{OnTrue_at, OnTrue_from}
use Rattle.std.specs.Vec.{vec_capacity}
use Rattle.frame_pool.specs.Pool.{fresh}
use Rattle.page_map.specs.Map.{Map, page_in}
use Rattle.page_map.specs.Starting.{StandsWith}
use Rattle.page_map.proofs.TakenPages.{page-there, there-at}
use Rattle.page_map.proofs.Maps.{page-taken, shown}
use Rattle.page_map.proofs.map.PageMap.is_fresh_at.Goals as goal

pub index-page-requires : goal.index-page-requires
index-page-requires c =
    let within : c.args.place < length c.self.inside.mapped.items =
    subst (λ (m : Map). c.args.place < length m.mapped) (sym c.self.view_is) c.requires in
    omega (arith, c.self.inside.mapped.ok.0)

pub is_fresh-requires : goal.is_fresh-requires
is_fresh-requires c =
    page-taken (shown c.self.inside) (vec_capacity c.self.inside.mapped) c.self.invariant c.args.place c.index-page.result.now (there-at c.self.inside.mapped.items c.args.self.now.mapped c.args.place c.index-page.result.now (ap (λ (m : Map). m.mapped) c.self.view_is) c.index-page.ensures c.requires)

pub returns : goal.returns
returns c = OnTrue_from c.is_fresh.result _ (λ yes n permission at.
    ap (λ (m : Map). page_in m n) (sym c.self.view_is)
    ∙ page-there (shown c.self.inside) (vec_capacity c.self.inside.mapped) c.self.invariant c.args.place n permission c.index-page.result.now fresh (there-at c.self.inside.mapped.items c.args.self.now.mapped c.args.place c.index-page.result.now (ap (λ (m : Map). m.mapped) c.self.view_is) c.index-page.ensures c.requires)
    (subst (λ (m : Map). StandsWith m.mapped c.args.place n permission) (sym c.self.view_is) at) (OnTrue_at yes c.is_fresh.ensures))
