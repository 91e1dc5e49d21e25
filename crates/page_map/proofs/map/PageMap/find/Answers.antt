use Rattle.std.proofs.Common.{◌≡◌, ◌∙◌, arith, Some, ap, sym, slice_get, subst}
use Rattle.std.specs.Option.{option_copied, option_map}
use Rattle.std.specs.Vec.{vec_capacity}
use Rattle.frame_pool.specs.Pool.{IsTaken}
use Rattle.page_map.specs.Map.{Map, page_at}
use Rattle.page_map.specs.Table.{place_in}
use Rattle.page_map.proofs.Maps.{page-none, page-permission, page-some, page-taken, place-within, shown, slice_get-read}
use Rattle.page_map.proofs.map.PageMap.find.Goals as goal

pub returns-in_err-place-clause-page : goal.returns-in_err-place-clause-page
returns-in_err-place-clause-page c =
    ap (λ o. option_map (page_at c.args.self.now.pool) (option_copied o)) c.from_residual.ensures
    ∙ sym (page-none c.args.self.now c.args.number (ap (λ (m : Map). place_in m.table c.args.number) (sym c.self.view_is) ∙ sym c.get.ensures ∙ c.in_err-place.was))

-- what stands at the place
stands : (c : goal.After-index) → slice_get c.self.inside.mapped.items c.in_ok-place.place ≡ Some c.index.result.now
stands c =
    slice_get-read c.self.inside.mapped.items c.in_ok-place.place c.index.result.now c.index.ensures
    (place-within (shown c.self.inside) (vec_capacity c.self.inside.mapped) c.self.invariant c.args.number c.in_ok-place.place (sym c.get.ensures ∙ c.in_ok-place.was))

pub returns-clause-page : goal.returns-clause-page
returns-clause-page c =
    sym (page-some c.args.self.now c.args.number c.in_ok-place.place c.index.result.now
    (ap (λ (m : Map). place_in m.table c.args.number) (sym c.self.view_is) ∙ sym c.get.ensures ∙ c.in_ok-place.was)
    (ap (λ (m : Map). slice_get m.mapped c.in_ok-place.place) (sym c.self.view_is) ∙ stands c))

pub returns-clause-taken : goal.returns-clause-taken
returns-clause-taken c =
    let was = c.self.inside in
    subst (λ (m : Map). IsTaken m.pool c.index.result.now.frame) c.self.view_is
    (page-taken (shown was) (vec_capacity was.mapped) c.self.invariant c.in_ok-place.place c.index.result.now (stands c))

pub returns-clause-permission : goal.returns-clause-permission
returns-clause-permission c =
    let was = c.self.inside in
    page-permission (shown was) (vec_capacity was.mapped) c.self.invariant c.in_ok-place.place c.index.result.now (stands c)

pub index-requires : goal.index-requires
index-requires c =
    omega (arith, c.self.inside.mapped.ok.0, place-within (shown c.self.inside) (vec_capacity c.self.inside.mapped) c.self.invariant c.args.number c.in_ok-place.place (sym c.get.ensures ∙ c.in_ok-place.was))
