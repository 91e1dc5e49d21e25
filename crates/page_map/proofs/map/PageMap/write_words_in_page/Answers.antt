use Rattle.std.proofs.Common.{◌≡◌, ◌∙◌, arith, ◌/◌, ◌%◌, List, Option, Some, None, ℕ, is_some, slice_get, nat_eq, cond, ap, sym}
use Rattle.std.specs.Option.{option_map}
use Rattle.std.specs.Vec.{vec_capacity}
use Rattle.frame_pool.specs.Pool.{free_count}
use Rattle.page_map.specs.Map.{Map, Page, frame_bytes, free_in, page_at, page_in, page_with_words, with_words}
use Rattle.page_map.specs.Table.{place_in}
use Rattle.page_map.proofs.Maps.{page-none, page-permission, page-some, page-taken, place-within, shown, slice_get-read, written-free, written-map, written-words}
use Rattle.page_map.proofs.map.PageMap.write_words_in_page.Goals as goal

-- what stands at the place of the page
stands : (c : goal.After-write_frame_words) → slice_get c.self.inside.mapped.items c.in-Some.place ≡ Some c.index-page.result.now
stands c =
    let kept = c.self.invariant in
    slice_get-read c.self.inside.mapped.items c.in-Some.place c.index-page.result.now c.index-page.ensures
    (place-within (shown c.self.inside) (vec_capacity c.self.inside.mapped) kept (c.args.at / 4096) c.in-Some.place (sym c.get.ensures ∙ c.in-Some.is))

pub write_frame_words-requires-clause-taken : goal.write_frame_words-requires-clause-taken
write_frame_words-requires-clause-taken c =
    let kept = c.self.invariant in
    page-taken (shown c.self.inside) (vec_capacity c.self.inside.mapped) kept c.in-Some.place c.index-page.result.now
    (slice_get-read c.self.inside.mapped.items c.in-Some.place c.index-page.result.now c.index-page.ensures
    (place-within (shown c.self.inside) (vec_capacity c.self.inside.mapped) kept (c.args.at / 4096) c.in-Some.place (sym c.get.ensures ∙ c.in-Some.is)))

pub unreachable-requires : goal.unreachable-requires
unreachable-requires c =
    let none : page_in c.args.self.now (c.args.at / 4096) ≡ None =
    page-none c.args.self.now (c.args.at / 4096) (ap (λ (m : Map). place_in m.table (c.args.at / 4096)) (sym c.self.view_is) ∙ sym c.get.ensures ∙ c.in-None.is) in
    let some = c.requires.mapped in
    let missing = ap is_some none in
    cc

pub invariant_of-self : goal.invariant_of-self
invariant_of-self c =
    let p = c.index-page.result.now in
    rw c.write_frame_words.ensures.written
    (written-map (shown c.self.inside) (vec_capacity c.self.inside.mapped) c.self.invariant (c.args.at / 4096) c.in-Some.place p
    (with_words (frame_bytes (slice_get c.self.inside.pool p.frame)) (c.args.at % 4096) c.args.words.now) (sym c.get.ensures ∙ c.in-Some.is) (stands c))

pub returns-clause-pages : goal.returns-clause-pages
returns-clause-pages c n =
    let was = c.self.inside in
    ap (λ (p : List (Option (List ℕ))). page_in (record { pool = p; mapped = was.mapped.items; table = was.table; break_at = was.break_at; break_start = was.break_start }) n) c.write_frame_words.ensures.written
    ∙ written-words (shown was) (vec_capacity was.mapped) c.self.invariant (c.args.at / 4096) c.in-Some.place c.index-page.result.now
    (c.args.at % 4096) c.args.words.now (sym c.get.ensures ∙ c.in-Some.is) (stands c) n
    ∙ ap (λ (m : Map). let q : Option Page = cond (nat_eq n (c.args.at / 4096)) (option_map (page_with_words (c.args.at % 4096) c.args.words.now) (page_in m n)) (page_in m n) in q) c.self.view_is

pub returns-clause-free : goal.returns-clause-free
returns-clause-free c =
    let p = c.index-page.result.now in
    ap free_count c.write_frame_words.ensures.written
    ∙ written-free (shown c.self.inside) (vec_capacity c.self.inside.mapped) c.self.invariant (c.args.at / 4096) c.in-Some.place p
    (with_words (frame_bytes (slice_get c.self.inside.pool p.frame)) (c.args.at % 4096) c.args.words.now) (sym c.get.ensures ∙ c.in-Some.is) (stands c)
    ∙ ap free_in c.self.view_is

-- the page, as the map shows it
page : (c : goal.After-write_frame_words) → page_in c.args.self.now (c.args.at / 4096) ≡ Some (page_at c.self.inside.pool c.index-page.result.now)
page c =
    ap (λ (m : Map). page_in m (c.args.at / 4096)) (sym c.self.view_is)
    ∙ page-some (shown c.self.inside) (c.args.at / 4096) c.in-Some.place c.index-page.result.now (sym c.get.ensures ∙ c.in-Some.is) (stands c)

pub returns-clause-size : goal.returns-clause-size
returns-clause-size c = rw (page c) c.write_frame_words.ensures.whole

pub returns-clause-permission : goal.returns-clause-permission
returns-clause-permission c =
    rw (page c) (page-permission (shown c.self.inside) (vec_capacity c.self.inside.mapped) c.self.invariant c.in-Some.place c.index-page.result.now (stands c))

pub index-page-requires : goal.index-page-requires
index-page-requires c =
    omega (arith, c.self.inside.mapped.ok.0, place-within (shown c.self.inside) (vec_capacity c.self.inside.mapped) c.self.invariant (c.args.at / 4096) c.in-Some.place (sym c.get.ensures ∙ c.in-Some.is))
