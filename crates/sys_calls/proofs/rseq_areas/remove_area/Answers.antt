-- What is left is what isn't of the thread.
use Rattle.sys_calls.proofs.Common.{not, eqb, ap, rules, ◌∙◌, RegisteredArea, areas_by_number, map_filters, is_area_of}
use Rattle.arrayvec.proofs.ArrayVecLemmas.{filter-from_retain}
use Rattle.sys_calls.proofs.rseq_areas.remove_area.Goals as goal

pub returns : goal.returns
returns c =
    ap areas_by_number (filter-from_retain _ (λ (entry : RegisteredArea). not (eqb entry.tid.0 c.args.tid.0)) _ (λ x b f' y called. search rules) _ _ c.retain.ensures.filtered)
    ∙ map_filters (λ (entry : RegisteredArea). (entry.tid.0, entry.area)) (λ pair. not (is_area_of c.args.tid.0 pair)) c.args.registered.now.items
