use Rattle.std.proofs.Common.{◌∙◌, ℕ, List, Option, ap}
use Rattle.std.specs.Option.{option_map}
use Rattle.std.specs.Vec.{vec_capacity}
use Rattle.frame_pool.specs.Pool.{free_count}
use Rattle.frame_pool.proofs.Laws.{free_count-zeroed}
use Rattle.page_map.specs.Map.{Map, free_in, page_in, permission_in, zero_page}
use Rattle.page_map.proofs.Maps.{shown}
use Rattle.page_map.proofs.Standing.{zeroed-map, zeroed-pages}
use Rattle.page_map.proofs.map.PageMap.zero_pages.Goals as goal

pub invariant_of-self : goal.invariant_of-self
invariant_of-self c = rw c.zero_taken.ensures (zeroed-map (shown c.self.inside) (vec_capacity c.self.inside.mapped) c.self.invariant)

pub returns-clause-pages : goal.returns-clause-pages
returns-clause-pages c n =
    let was = c.self.inside in
    ap (λ (p : List (Option (List ℕ))). page_in (record { pool = p; mapped = was.mapped.items; table = was.table; break_at = was.break_at; break_start = was.break_start }) n) c.zero_taken.ensures
    ∙ zeroed-pages (shown was) (vec_capacity was.mapped) c.self.invariant n
    ∙ ap (λ (m : Map). option_map zero_page (permission_in m n)) c.self.view_is

pub returns-clause-free : goal.returns-clause-free
returns-clause-free c = ap free_count c.zero_taken.ensures ∙ free_count-zeroed c.self.inside.pool ∙ ap free_in c.self.view_is
