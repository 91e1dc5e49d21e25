-- The area is the last one.
use Rattle.sys_calls.proofs.Common.{ap, [], ◌∷◌, ◌∙◌, RegisteredArea, areas_by_number, map-append}
use Rattle.sys_calls.proofs.rseq_areas.add_area.Goals as goal

pub returns : goal.returns
returns c =
    let added : RegisteredArea = record { tid = c.args.tid; area = c.args.area } in
    ap areas_by_number c.push.ensures.items
    ∙ map-append (λ (entry : RegisteredArea). (entry.tid.0, entry.area)) c.args.registered.now.items (added ∷ [])
