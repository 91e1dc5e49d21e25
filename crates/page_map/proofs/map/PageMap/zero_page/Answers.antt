use Rattle.std.proofs.Common.{◌≡◌, ◌∙◌, arith, List, Option, Some, None, ℕ, is_some, slice_get, nat_eq, cond, ap, sym}
use Rattle.std.specs.Option.{option_map}
use Rattle.std.specs.Vec.{vec_capacity}
use Rattle.frame_pool.specs.Pool.{free_count, fresh}
use Rattle.page_map.specs.Map.{Map, Page, free_in, page_in, zeroed_page}
use Rattle.page_map.specs.Table.{place_in}
use Rattle.page_map.proofs.Maps.{page-none, page-taken, place-within, shown, slice_get-read, written-free, written-map, written-zeros}
use Rattle.page_map.proofs.map.PageMap.zero_page.Goals as goal

-- what stands at the place of the page
stands : (c : goal.After-zero_frame) → slice_get c.self.inside.mapped.items c.in-Some.place ≡ Some c.index-page.result.now
stands c =
    slice_get-read c.self.inside.mapped.items c.in-Some.place c.index-page.result.now c.index-page.ensures
    (place-within (shown c.self.inside) (vec_capacity c.self.inside.mapped) c.self.invariant c.args.number c.in-Some.place (sym c.get.ensures ∙ c.in-Some.is))

pub index-page-requires : goal.index-page-requires
index-page-requires c =
    omega (arith, c.self.inside.mapped.ok.0, place-within (shown c.self.inside) (vec_capacity c.self.inside.mapped) c.self.invariant c.args.number c.in-Some.place (sym c.get.ensures ∙ c.in-Some.is))

pub zero_frame-requires : goal.zero_frame-requires
zero_frame-requires c =
    page-taken (shown c.self.inside) (vec_capacity c.self.inside.mapped) c.self.invariant c.in-Some.place c.index-page.result.now
    (slice_get-read c.self.inside.mapped.items c.in-Some.place c.index-page.result.now c.index-page.ensures
    (place-within (shown c.self.inside) (vec_capacity c.self.inside.mapped) c.self.invariant c.args.number c.in-Some.place (sym c.get.ensures ∙ c.in-Some.is)))

pub unreachable-requires : goal.unreachable-requires
unreachable-requires c =
    let none : page_in c.args.self.now c.args.number ≡ None =
    page-none c.args.self.now c.args.number (ap (λ (m : Map). place_in m.table c.args.number) (sym c.self.view_is) ∙ sym c.get.ensures ∙ c.in-None.is) in
    let some = c.requires in
    let missing = ap is_some none in
    cc

pub invariant_of-self : goal.invariant_of-self
invariant_of-self c =
    rw c.zero_frame.ensures
    (written-map (shown c.self.inside) (vec_capacity c.self.inside.mapped) c.self.invariant c.args.number c.in-Some.place c.index-page.result.now fresh
    (sym c.get.ensures ∙ c.in-Some.is) (stands c))

pub returns-clause-pages : goal.returns-clause-pages
returns-clause-pages c n =
    let was = c.self.inside in
    ap (λ (p : List (Option (List ℕ))). page_in (record { pool = p; mapped = was.mapped.items; table = was.table; break_at = was.break_at; break_start = was.break_start }) n) c.zero_frame.ensures
    ∙ written-zeros (shown was) (vec_capacity was.mapped) c.self.invariant c.args.number c.in-Some.place c.index-page.result.now
    (sym c.get.ensures ∙ c.in-Some.is) (stands c) n
    ∙ ap (λ (m : Map). let q : Option Page = cond (nat_eq n c.args.number) (option_map zeroed_page (page_in m n)) (page_in m n) in q) c.self.view_is

pub returns-clause-free : goal.returns-clause-free
returns-clause-free c =
    ap free_count c.zero_frame.ensures
    ∙ written-free (shown c.self.inside) (vec_capacity c.self.inside.mapped) c.self.invariant c.args.number c.in-Some.place c.index-page.result.now fresh
    (sym c.get.ensures ∙ c.in-Some.is) (stands c)
    ∙ ap free_in c.self.view_is
