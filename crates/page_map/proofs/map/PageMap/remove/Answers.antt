use Rattle.std.proofs.Common.{◌≡◌, ◌<◌, ◌+◌, ◌-◌, ◌∙◌, List, Option, Some, None, ℕ, cond, is_some, length, get_or, nat_eq, slice_get, slice_set, ap, arith, subst, sym}
use Rattle.std.specs.Vec.{vec_capacity, vec_len}
use Rattle.frame_pool.specs.Pool.{IsTaken, free_count}
use Rattle.page_map.specs.Map.{Map, Page, free_in, page_in}
use Rattle.page_map.specs.Table.{place_in}
use Rattle.page_map.proofs.Maps.{page-lies, page-none, place-within, shown, slice_get-read}
use Rattle.page_map.proofs.Removing.{IsRemoved, removed-by, removed-free, removed-map, removed-pages, removed-taken}
use Rattle.page_map.proofs.map.PageMap.remove.Goals as goal

pub unreachable-requires : goal.unreachable-requires
unreachable-requires c =
    let none : page_in c.args.self.now c.args.number ≡ None =
    page-none c.args.self.now c.args.number (ap (λ (m : Map). place_in m.table c.args.number) (sym c.self.view_is) ∙ sym c.get.ensures ∙ c.in-None.is) in
    let some = c.requires in
    let missing = ap is_some none in
    cc

within : (c : goal.After-len) → c.in-Some.place < length c.self.inside.mapped.items
within c = place-within (shown c.self.inside) (vec_capacity c.self.inside.mapped) c.self.invariant c.args.number c.in-Some.place (sym c.get.ensures ∙ c.in-Some.is)

pub overflow_sub-len : goal.overflow_sub-len
overflow_sub-len c = omega (arith, within c, c.self.inside.mapped.ok.0, c.len.ensures)

pub index-requires : goal.index-requires
index-requires c = omega (arith, within c, c.self.inside.mapped.ok.0, c.len.ensures)

-- the last page of the list
last-there : (c : goal.After-set-arg-1) → slice_get c.self.inside.mapped.items (c.len.result - 1) ≡ Some c.index.result.now
last-there c =
    let within : c.in-Some.place < length c.self.inside.mapped.items =
    place-within (shown c.self.inside) (vec_capacity c.self.inside.mapped) c.self.invariant c.args.number c.in-Some.place (sym c.get.ensures ∙ c.in-Some.is) in
    slice_get-read c.self.inside.mapped.items (c.len.result - 1) c.index.result.now c.index.ensures
    (omega (arith, within, c.self.inside.mapped.ok.0, c.len.ensures))

pub set-requires : goal.set-requires
set-requires c =
    let lies = page-lies (shown c.self.inside) (vec_capacity c.self.inside.mapped) c.self.invariant (c.len.result - 1) c.index.result.now (last-there c) in
    lies.inside

pub swap_remove-page-requires : goal.swap_remove-page-requires
swap_remove-page-requires c =
    let within : c.in-Some.place < length c.self.inside.mapped.items =
    place-within (shown c.self.inside) (vec_capacity c.self.inside.mapped) c.self.invariant c.args.number c.in-Some.place (sym c.get.ensures ∙ c.in-Some.is) in
    omega (arith, within, c.self.inside.mapped.ok.0)

-- what was taken out, and how the list and the table are then
removed : (c : goal.After-into_frame) → IsRemoved (shown c.self.inside) c.args.number c.swap_remove-page.result c.swap_remove-page.new.self.items c.set-in-Some.new.self
removed c =
    let was = c.self.inside in
    let within : c.in-Some.place < length was.mapped.items =
    place-within (shown was) (vec_capacity was.mapped) c.self.invariant c.args.number c.in-Some.place (sym c.get.ensures ∙ c.in-Some.is) in
    let size : c.len.result ≡ length was.mapped.items = c.len.ensures ∙ was.mapped.ok.0 in
    let sizes : vec_len was.mapped ≡ c.len.result = sym c.len.ensures in
    let done = c.swap_remove-page.ensures in
    removed-by (shown was) c.args.number c.in-Some.place c.len.result c.swap_remove-page.result c.index.result.now
    c.swap_remove-page.new.self.items c.set.new.self c.set-in-Some.new.self
    (sym c.get.ensures ∙ c.in-Some.is) within size done.value c.index.ensures
    (omega (arith, done.len, was.mapped.ok.0, c.swap_remove-page.new.self.ok.0))
    (λ d lt. done.by_index.0 d (omega arith) ∙ ap (λ (l : ℕ). get_or was.mapped.items (l - 1) d) sizes)
    (λ k d two lt. done.by_index.1 k d two (omega arith))
    c.set.ensures c.set-in-Some.ensures

pub give-requires : goal.give-requires
give-requires c =
    subst (λ (f : ℕ). IsTaken c.self.inside.pool f) (sym c.into_frame.ensures)
    (removed-taken (shown c.self.inside) (vec_capacity c.self.inside.mapped) c.self.invariant c.args.number c.swap_remove-page.result
    c.swap_remove-page.new.self.items c.set-in-Some.new.self (removed c))

-- the frame that was given back
given : (c : goal.After-give) → c.give.new.self ≡ slice_set c.self.inside.pool c.swap_remove-page.result.frame None
given c = c.give.ensures ∙ ap (λ (f : ℕ). slice_set c.self.inside.pool f None) c.into_frame.ensures

pub invariant_of-self : goal.invariant_of-self
invariant_of-self c =
    rw (given c)
    (removed-map (shown c.self.inside) (vec_capacity c.self.inside.mapped) c.self.invariant c.args.number c.swap_remove-page.result
    c.swap_remove-page.new.self.items c.set-in-Some.new.self (removed c.before) (vec_capacity c.swap_remove-page.new.self)
    (omega (arith, c.swap_remove-page.ensures.capacity)))

pub returns-clause-pages : goal.returns-clause-pages
returns-clause-pages c n =
    let was = c.self.inside in
    ap (λ (p : List (Option (List ℕ))). page_in (record { pool = p; mapped = c.swap_remove-page.new.self.items; table = c.set-in-Some.new.self; break_at = was.break_at; break_start = was.break_start }) n) (given c)
    ∙ removed-pages (shown was) (vec_capacity was.mapped) c.self.invariant c.args.number c.swap_remove-page.result
    c.swap_remove-page.new.self.items c.set-in-Some.new.self (removed c.before) n
    ∙ ap (λ (m : Map). let q : Option Page = cond (nat_eq n c.args.number) None (page_in m n) in q) c.self.view_is

pub returns-clause-free : goal.returns-clause-free
returns-clause-free c =
    let was = c.self.inside in
    ap free_count (given c)
    ∙ removed-free (shown was) (vec_capacity was.mapped) c.self.invariant c.args.number c.swap_remove-page.result
    c.swap_remove-page.new.self.items c.set-in-Some.new.self (removed c.before)
    ∙ ap (λ (m : Map). free_in m + 1) c.self.view_is
