use Rattle.sys_calls.proofs.Common.{◌≡◌, area_of, areas_by_number, drop}
use Rattle.sys_calls.proofs.rseq_areas.area_among.Given as goal

-- none of those before is the thread's
abbrev pub invariant-loop-entry : goal.invariant-loop-entry
invariant-loop-entry l =
    area_of l.tid.0 (areas_by_number l.registered) ≡ area_of l.tid.0 (areas_by_number (drop l.entry-index l.registered))
