use Rattle.std.proofs.Common.{◌-◌, ◌∙◌, ap, is_some}
use Rattle.std.specs.Vec.{vec_capacity}
use Rattle.mach_types.specs.Kernel.Pages.{first_page}
use Rattle.page_map.specs.Map.{Map, permission_in}
use Rattle.page_map.proofs.Maps.{is_mapped-placed, shown}
use Rattle.page_map.proofs.map.PageMap.next_mapped.Goals as goal

pub returns : goal.returns
returns c =
    let was = c.self.inside in
    c.next.ensures
    ∙ (λ i. first_page (λ n. is_mapped-placed (shown was) (vec_capacity was.mapped) c.self.invariant n i) c.args.from (c.args.end - c.args.from))
    ∙ ap (λ (m : Map). first_page (λ n. is_some (permission_in m n)) c.args.from (c.args.end - c.args.from)) c.self.view_is
