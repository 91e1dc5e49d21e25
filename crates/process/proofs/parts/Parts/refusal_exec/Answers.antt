-- Why the thread on a hart may not execute its next instruction.
use Rattle.process.proofs.Common.{IsNextAt, byte_in, can_write_in, credit_of, here_at}
use Rattle.process.proofs.Places.{hart_is, reached_at, storable_at}
use Rattle.process.proofs.NextInstruction.{gate_at, next_at}
use Rattle.process.proofs.parts.Parts.refusal_exec.Goals as goal

pub returns : goal.returns
returns c v place alone =
    let x = c.index-state.result.now in
    let m = c.args.self.now in
    let h = c.args.hart.0 in
    let next : IsNextAt (here_at v h) c.next_of-next.result = next_at (here_at v h) x (v.plain.ran h) (v.plain.events h) (credit_of m.harts.items h) c.args.code.now (byte_in m.pages) (can_write_in m.pages) c.next_of-next.result (hart_is v m h x place c.index-state.ensures) alone.pages (reached_at v m h place alone.none) (storable_at v m h place alone.none) c.next_of-next.ensures.effect c.next_of-next.ensures.fault in
    gate_at v h c.next_of-next.result c.exec_gate.result alone.none (c.exec_gate.ensures v.setting v.plain place.tied place.lt) next
