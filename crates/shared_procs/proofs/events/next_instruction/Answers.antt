-- The next instruction, over the pages and the segment.
use Rattle.process.proofs.Laws.{next_at}
use Rattle.shared_procs.proofs.Common.{credit_of, half, hart_tied, here_two, reached_in, setting, storable_in}
use Rattle.shared_procs.proofs.PairMemory.{reached_is, storable_is}
use Rattle.shared_procs.proofs.events.next_instruction.Goals as goal

pub returns-clause-next : goal.returns-clause-next
returns-clause-next c s m p acting =
    let h = c.args.hart.0 in
    let mine = c.args.mine.now in
    let segment = c.args.segment.now in
    let x = c.index-state.result.now in
    let own = hart_tied (setting s p) (half p m) mine.parts h x acting.place.tied acting.place.lt c.index-state.ensures in
    next_at (here_two s m p h) x ((half p m).ran h) ((half p m).events h) (credit_of mine.parts.harts.items h) mine.code
    (reached_in segment mine.parts.pages) (storable_in mine.parts.pages) c.next_of.result own acting.code
    (reached_is s m p h mine segment acting) (storable_is s m p h mine segment acting) c.next_of.ensures.effect c.next_of.ensures.fault
