-- The first condition of a choice of a process that fails.
use Rattle.shared_procs.proofs.Common.{sym, ap, ◌∙◌, subst, Choice, Half, half, here_two, in_list, IsTied, neighbour, refusal_of, setting, stand}
use Rattle.shared_procs.proofs.PairMemory.{segment_pages}
use Rattle.shared_procs.proofs.events.refusal.Goals as goal

pub exec_gate_beside-requires-clause-listed : goal.exec_gate_beside-requires-clause-listed
exec_gate_beside-requires-clause-listed c =
    rw c.next_instruction-next.ensures.mine
    (in_list (stand c.requires.setting c.requires.pair c.requires.process) c.args.mine.now.parts c.args.hart.0 c.requires.acting.place)

pub returns-in-Exec-clause-why : goal.returns-in-Exec-clause-why
returns-in-Exec-clause-why c s m p acting =
    let tied = subst (λ (x : Half). IsTied (setting s p) (half p m) x.parts) (sym c.next_instruction-next.ensures.mine) acting.place.tied in
    c.exec_gate_beside.ensures (stand s m p) tied acting.place.lt (segment_pages (neighbour s m p)) (c.next_instruction-next.ensures.next s m p acting)
    ∙ ap (λ (choice : Choice). refusal_of choice (here_two s m p c.args.hart.0)) (sym c.in-Exec.is)

pub returns-in_default-clause-why : goal.returns-in_default-clause-why
returns-in_default-clause-why c s m p acting = c.refusal_unless_exec.ensures (stand s m p) acting.place
