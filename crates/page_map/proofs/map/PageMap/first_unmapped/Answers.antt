use Rattle.std.proofs.Common.{◌≡◌, ◌∙◌, Option, None, ap, arith, is_some, sym}
use Rattle.std.specs.Option.{option_map}
use Rattle.std.specs.Vec.{vec_capacity}
use Rattle.page_map.specs.Map.{Map, Page, permission_in}
use Rattle.page_map.specs.Table.{place_in}
use Rattle.page_map.proofs.Maps.{is_mapped-placed, page-none, shown}
use Rattle.page_map.proofs.map.PageMap.first_unmapped.Goals as goal

pub returns-clause-filled : goal.returns-clause-filled
returns-clause-filled c n from to =
    let placed = is_mapped-placed (shown c.self.inside) (vec_capacity c.self.inside.mapped) c.self.invariant n in
    let place = c.pass_filled.ensures.filled n from (omega arith) in
    let same = ap (λ (m : Map). is_some (permission_in m n)) c.self.view_is in
    cc

pub returns-clause-free : goal.returns-clause-free
returns-clause-free c below =
    let here : c.min.result ≡ c.pass_filled.result = omega arith in
    let unplaced : place_in c.self.inside.table c.min.result ≡ None =
    ap (λ n. place_in c.self.inside.table n) here ∙ c.pass_filled.ensures.free in
    ap (λ (m : Map). permission_in m c.min.result) (sym c.self.view_is)
    ∙ ap (λ (o : Option Page). option_map (λ (p : Page). p.permission) o) (page-none (shown c.self.inside) c.min.result unplaced)
