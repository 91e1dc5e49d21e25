use Rattle.std.proofs.Common.{◌≡◌, ◌<◌, ◌+◌, ℕ, List, Option, Some, None, cond, nat_eq, length, ap, sym, ◌∙◌, subst}
use Rattle.std.specs.Option.{option_copied}
use Rattle.std.specs.Vec.{vec_capacity}
use Rattle.frame_pool.specs.Pool.{free_count}
use Rattle.frame_pool.proofs.Laws.{free_count-taking}
use Rattle.page_map.specs.Map.{Map, Page, first_bytes, free_in, page_in}
use Rattle.page_map.specs.Mapping.{CanLie}
use Rattle.page_map.specs.Table.{place_in}
use Rattle.page_map.proofs.Maps.{added-map, added-pages, shown, unmapped-place}
use Rattle.page_map.proofs.map.PageMap.add.Goals as goal

-- the map as it was
abbrev before : goal.After-set → Map
before c = shown c.self.inside

-- the bytes of the new page
abbrev given : goal.After-set → List ℕ
given c = first_bytes (option_copied c.args.bytes)

-- the table has the new place
places : (c : goal.After-set) (n : ℕ)
    → place_in c.set.new.self n ≡ cond (nat_eq n c.args.number) (Some (length c.self.inside.mapped.items)) (place_in c.self.inside.table n)
places c n =
    let was = c.self.inside in
    let next : c.len-place.result ≡ length was.mapped.items = c.len-place.ensures ∙ was.mapped.ok.0 in
    c.set.ensures n ∙ ap (λ (l : ℕ). let q : Option ℕ = cond (nat_eq n c.args.number) (Some l) (place_in was.table n) in q) next

pub invariant_of-self : goal.invariant_of-self
invariant_of-self c =
    let was = c.self.inside in
    let some : 0 < free_count was.pool = subst (λ (m : Map). 0 < free_count m.pool) (sym c.self.view_is) c.requires.free in
    let unplaced : place_in was.table c.args.number ≡ None =
    unmapped-place (before c) (vec_capacity was.mapped) c.self.invariant c.args.number (ap (λ (m : Map). page_in m c.args.number) c.self.view_is ∙ c.requires.unmapped) in
    let lies : CanLie was.break_start was.break_at c.args.number c.args.permission =
    subst (λ (m : Map). CanLie m.break_start m.break_at c.args.number c.args.permission) (sym c.self.view_is) c.requires.number in
    rw c.filled-frame.ensures.taken
    (added-map (before c) (vec_capacity was.mapped) c.self.invariant c.filled-frame.result c.args.number c.args.permission (given c)
    c.filled-frame.ensures.was_free c.keep.new.mapped.items c.set.new.self c.keep.ensures.items (places c)
    (vec_capacity c.keep.new.mapped) lies c.requires.permission some unplaced c.keep.ensures.capacity)

pub returns-clause-pages : goal.returns-clause-pages
returns-clause-pages c n =
    let was = c.self.inside in
    ap (λ (p : List (Option (List ℕ))). page_in (record { pool = p; mapped = c.keep.new.mapped.items; table = c.set.new.self; break_at = was.break_at; break_start = was.break_start }) n) c.filled-frame.ensures.taken
    ∙ added-pages (before c) (vec_capacity was.mapped) c.self.invariant c.filled-frame.result c.args.number c.args.permission (given c)
    c.filled-frame.ensures.was_free c.keep.new.mapped.items c.set.new.self c.keep.ensures.items (places c) n
    ∙ ap (λ (m : Map). let q : Option Page = cond (nat_eq n c.args.number) (Some (record { permission = c.args.permission; bytes = (given c) })) (page_in m n) in q) c.self.view_is

pub returns-clause-free : goal.returns-clause-free
returns-clause-free c =
    let was = c.self.inside in
    ap (λ (p : List (Option (List ℕ))). free_count p + 1) c.filled-frame.ensures.taken
    ∙ free_count-taking was.pool c.filled-frame.result (given c) c.filled-frame.ensures.was_free
    ∙ ap free_in c.self.view_is
