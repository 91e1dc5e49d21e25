-- The next instruction is the one that was read.
use Rattle.shared_procs.proofs.Common.{ℕ, List, sym, subst, Half, HasNext, IsPerformedAt}
use Rattle.shared_procs.proofs.PairInstructions.{step_of}
use Rattle.shared_procs.proofs.events.execute.Goals as goal

pub perform-requires : goal.perform-requires
perform-requires c =
    let s = c.requires.setting in
    let m = c.requires.pair in
    let p = c.requires.process in
    let h = c.args.hart.0 in
    let mine = c.args.mine.now in
    let other = c.args.other.now in
    let next = c.next_instruction-next.result in
    let its : HasNext h next mine other c.args.segment.now = record {
      setting = s;
      pair = m;
      process = p;
      acting = c.requires.acting;
      step = step_of s m p h next mine.parts other.parts c.requires.acting.place c.requires.beside (c.next_instruction-next.ensures.next s m p c.requires.acting)
          c.next_instruction-next.ensures.sizes c.requires.free;
    } in
    subst (λ (x : Half). HasNext h next x other c.next_instruction-next.new.segment) (sym c.next_instruction-next.ensures.mine)
    (subst (λ (xs : List ℕ). HasNext h next mine other xs) (sym c.next_instruction-next.ensures.segment) its)

pub returns : goal.returns
returns c s m p acting tied free =
    let h = c.args.hart.0 in
    let mine = c.args.mine.now in
    let other = c.args.other.now in
    let next = c.next_instruction-next.result in
    let performs =
    subst (λ (xs : List ℕ). IsPerformedAt h next mine other xs c.perform.new.mine c.perform.new.other c.perform.new.segment) c.next_instruction-next.ensures.segment
    (subst (λ (x : Half). IsPerformedAt h next x other c.next_instruction-next.new.segment c.perform.new.mine c.perform.new.other c.perform.new.segment)
    c.next_instruction-next.ensures.mine c.perform.ensures) in
    performs s m p acting
    (step_of s m p h next mine.parts other.parts acting.place tied (c.next_instruction-next.ensures.next s m p acting) c.next_instruction-next.ensures.sizes free)
