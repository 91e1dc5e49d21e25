use Rattle.std.proofs.Common.{◌≡◌, ◌∙◌, arith, Option, Some, None, cond, is_some, nat_eq, slice_get, ap, sym}
use Rattle.std.specs.Vec.{vec_capacity}
use Rattle.page_map.specs.Map.{Map, Page, page_in, protected_page}
use Rattle.std.specs.Option.{option_map}
use Rattle.page_map.specs.Table.{place_in}
use Rattle.page_map.proofs.Maps.{page-none, place-within, shown, slice_get-read}
use Rattle.page_map.proofs.Protecting.{protected-map, protected-pages}
use Rattle.page_map.proofs.map.PageMap.set_permission.Goals as goal

pub unreachable-requires : goal.unreachable-requires
unreachable-requires c =
    let none : page_in c.args.self.now c.args.number ≡ None =
    page-none c.args.self.now c.args.number (ap (λ (m : Map). place_in m.table c.args.number) (sym c.self.view_is) ∙ sym c.get.ensures ∙ c.in-None.is) in
    let some = c.requires.mapped in
    let missing = ap is_some none in
    cc

pub index_mut-requires : goal.index_mut-requires
index_mut-requires c =
    omega (arith, c.self.inside.mapped.ok.0, place-within (shown c.self.inside) (vec_capacity c.self.inside.mapped) c.self.invariant c.args.number c.in-Some.place (sym c.get.ensures ∙ c.in-Some.is))

-- what stands at the place of the page
stands : (c : goal.After-self-1) → slice_get c.self.inside.mapped.items c.in-Some.place ≡ Some c.index_mut.result.now
stands c =
    slice_get-read c.self.inside.mapped.items c.in-Some.place c.index_mut.result.now c.index_mut.ensures.value
    (place-within (shown c.self.inside) (vec_capacity c.self.inside.mapped) c.self.invariant c.args.number c.in-Some.place (sym c.get.ensures ∙ c.in-Some.is))

pub invariant_of-self : goal.invariant_of-self
invariant_of-self c =
    protected-map (shown c.self.inside) (vec_capacity c.self.inside.mapped) c.self.invariant c.args.number c.in-Some.place c.args.permission
    c.index_mut.result.now (sym c.get.ensures ∙ c.in-Some.is) (stands c) c.requires.permission c.requires.code

pub returns-clause-pages : goal.returns-clause-pages
returns-clause-pages c n =
    protected-pages (shown c.self.inside) (vec_capacity c.self.inside.mapped) c.self.invariant c.args.number c.in-Some.place c.args.permission
    c.index_mut.result.now (sym c.get.ensures ∙ c.in-Some.is) (stands c) n
    ∙ ap (λ (m : Map). let q : Option Page = cond (nat_eq n c.args.number) (option_map (protected_page c.args.permission) (page_in m n)) (page_in m n) in q) c.self.view_is
