use Rattle.machine_core.proofs.Common.{◌≡◌, ◌≤◌, ◌++◌, map, take, executed, vec_capacity}
use Rattle.machine_core.proofs.machine.local_stretches.append_executed.Given as goal

-- those of the addresses before are appended
abbrev pub invariant-loop-pc : goal.invariant-loop-pc
invariant-loop-pc l =
    (l.log.items ≡ l.fn.log.items ++ map (executed l.hart l.tid) (take l.pc-index l.pcs)) × (vec_capacity l.fn.log ≤ vec_capacity l.log)
