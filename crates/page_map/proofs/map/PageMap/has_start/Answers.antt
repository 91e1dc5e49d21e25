use Rattle.std.proofs.Common.{◌∙◌, ap, subst, sym}
use Rattle.std.specs.Vec.{vec_capacity}
use Rattle.page_map.specs.Map.{Map, permission_in}
use Rattle.page_map.specs.Starting.{AreLaidOut}
use Rattle.page_map.proofs.Maps.{shown}
use Rattle.page_map.proofs.Standing.{start-permission}
use Rattle.page_map.proofs.map.PageMap.has_start.Goals as goal

pub returns : goal.returns
returns c pages laid n =
    let was = c.self.inside in
    ap (λ (m : Map). permission_in m n) (sym c.self.view_is)
    ∙ start-permission (shown was) (vec_capacity was.mapped) c.self.invariant pages
    (subst (λ (m : Map). AreLaidOut pages m.mapped) (sym c.self.view_is) laid) n
