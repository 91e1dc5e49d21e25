use Rattle.std.proofs.Common.{ap, is_some}
use Rattle.std.specs.Vec.{vec_capacity}
use Rattle.page_map.specs.Map.{Map, permission_in}
use Rattle.page_map.proofs.Maps.{is_mapped-placed, shown}
use Rattle.page_map.proofs.map.PageMap.is_page.Goals as goal

pub returns : goal.returns
returns c =
    let placed = is_mapped-placed (shown c.self.inside) (vec_capacity c.self.inside.mapped) c.self.invariant c.args.number in
    let place = ap is_some c.get.ensures in
    let same = ap (λ (m : Map). is_some (permission_in m c.args.number)) c.self.view_is in
    cc
