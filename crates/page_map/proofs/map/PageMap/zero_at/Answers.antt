use Rattle.std.proofs.Common.{◌≡◌, ◌<◌, ◌∙◌, arith, List, Option, Some, ℕ, length, slice_get, nat_eq, cond, ap, subst, sym}
use Rattle.std.specs.Vec.{vec_capacity}
use Rattle.frame_pool.specs.Pool.{free_count, fresh}
use Rattle.page_map.specs.Map.{Map, Page, free_in, page_in}
use Rattle.page_map.specs.declared.mapped_page.MappedPage.{MappedPage}
use Rattle.page_map.proofs.Maps.{one-page, page-taken, shown, slice_get-read, written-free, written-map, written-pages}
use Rattle.page_map.proofs.map.PageMap.zero_at.Goals as goal

-- what stands at the place
stands : (c : goal.After-zero) → slice_get c.self.inside.mapped.items c.args.place ≡ Some c.index-page.result.now
stands c =
    slice_get-read c.self.inside.mapped.items c.args.place c.index-page.result.now c.index-page.ensures
    (subst (λ (m : Map). c.args.place < length m.mapped) (sym c.self.view_is) c.requires)

pub index-page-requires : goal.index-page-requires
index-page-requires c =
    let within : c.args.place < length c.self.inside.mapped.items =
    subst (λ (m : Map). c.args.place < length m.mapped) (sym c.self.view_is) c.requires in
    omega (arith, c.self.inside.mapped.ok.0)

pub zero-requires : goal.zero-requires
zero-requires c =
    page-taken (shown c.self.inside) (vec_capacity c.self.inside.mapped) c.self.invariant c.args.place c.index-page.result.now
    (slice_get-read c.self.inside.mapped.items c.args.place c.index-page.result.now c.index-page.ensures
    (subst (λ (m : Map). c.args.place < length m.mapped) (sym c.self.view_is) c.requires))

pub invariant_of-self : goal.invariant_of-self
invariant_of-self c =
    let p = c.index-page.result.now in
    let kept = c.self.invariant in
    rw c.zero.ensures
    (written-map (shown c.self.inside) (vec_capacity c.self.inside.mapped) kept p.number c.args.place p fresh (kept.entered c.args.place p (stands c)) (stands c))

pub returns-clause-pages : goal.returns-clause-pages
returns-clause-pages c n number permission at =
    let was = c.self.inside in
    let kept = c.self.invariant in
    let p = c.index-page.result.now in
    let there = ap (λ (m : Map). slice_get m.mapped c.args.place) c.self.view_is ∙ at.there in
    let one : p ≡ at.page = one-page was.mapped.items c.args.place p at.page (stands c) there in
    let numbered : p.number ≡ number = ap (λ (q : MappedPage). q.number) one ∙ at.number in
    let permitted : p.permission ≡ permission = ap (λ (q : MappedPage). q.permission) one ∙ at.permission in
    ap (λ (pool : List (Option (List ℕ))). page_in (record { pool = pool; mapped = was.mapped.items; table = was.table; break_at = was.break_at; break_start = was.break_start }) n) c.zero.ensures
    ∙ written-pages (shown was) (vec_capacity was.mapped) kept p.number c.args.place p fresh (kept.entered c.args.place p (stands c)) (stands c) n
    ∙ ap (λ (m : Map). let q : Option Page = cond (nat_eq n p.number) (Some (record { permission = p.permission; bytes = fresh })) (page_in m n) in q) c.self.view_is
    ∙ ap (λ (k : ℕ). let q : Option Page = cond (nat_eq n k) (Some (record { permission = p.permission; bytes = fresh })) (page_in c.args.self.now n) in q) numbered
    ∙ ap (λ (k : ℕ). let q : Option Page = cond (nat_eq n number) (Some (record { permission = k; bytes = fresh })) (page_in c.args.self.now n) in q) permitted

pub returns-clause-free : goal.returns-clause-free
returns-clause-free c =
    let p = c.index-page.result.now in
    let kept = c.self.invariant in
    ap free_count c.zero.ensures
    ∙ written-free (shown c.self.inside) (vec_capacity c.self.inside.mapped) kept p.number c.args.place p fresh (kept.entered c.args.place p (stands c)) (stands c)
    ∙ ap free_in c.self.view_is
