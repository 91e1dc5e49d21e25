use Rattle.process.proofs.Common.{◌∙◌, IsNextAt, IsPlace, Stand, here_at, IsAlone, ◌&&◌, Option, None, false, is_some, not, ap, refl, sym, option_map_or, sets_register, fault_by, fetched, Effect, byte_in, can_write_in, credit_of}
use Rattle.process.proofs.Places.{hart_is, in_list}
use Rattle.process.proofs.FreeInstructions.{free_is_allowed, free_tells, no_fault_of_free}
use Rattle.process.proofs.NextInstruction.{gate_at, next_read, planned}
use Rattle.process.proofs.parts.Parts.planned.Goals as goal
use Rattle.process.proofs.parts.Parts.planned.Goals.{After-next-1}

pub fault_of_next-fault-requires : goal.fault_of_next-fault-requires
fault_of_next-fault-requires c = rw c.as_ref-asked.ensures.value c.effect_at-effect.ensures.sizes

pub exec_gate-requires : goal.exec_gate-requires
exec_gate-requires c = in_list c.requires.stand c.args.self.now c.args.hart.0 c.requires.place

pub returns-then-is_free-clause-ok : goal.returns-then-is_free-clause-ok
returns-then-is_free-clause-ok c v place alone =
    let x = c.index-state.result.now in
    let m = c.args.self.now in
    let h = c.args.hart.0 in
    let read = c.effect_at-effect in
    let word = fetched c.args.code.now x.pc in
    let free = free_tells x read.result
    (ap (λ (o : Option Effect). option_map_or sets_register o false && is_some x.running && not (is_some x.waits)) (sym c.as_ref-asked.ensures.value)
    ∙ sym c.is_free.ensures ∙ c.if-is_free.true) in
    let next = next_read v m h x c.args.code.now word read.result None place alone.none c.index-state.ensures alone.pages refl
    read.ensures.effect (no_fault_of_free (byte_in m.pages) (can_write_in m.pages) x.pc word read.result free.sets) in
    planned v h (record { effect = read.result; fault = None }) alone.none next read.ensures.sizes
    (sym (gate_at v h (record { effect = read.result; fault = None }) None alone.none (λ at. sym (free_is_allowed v.setting v.plain h (credit_of m.harts.items h) x (record { effect = read.result; fault = None })
    (hart_is v m h x place c.index-state.ensures) at refl free)) next))

-- what was read, with its fault
next : (c : After-next-1) (v : Stand) → IsPlace v c.args.self.now c.args.hart.0 → IsAlone c.args.code.now v
    → IsNextAt (here_at v c.args.hart.0) (record { effect = c.effect_at-effect.result; fault = c.fault_of_next-fault.result })
next c v place alone =
    let m = c.args.self.now in
    let x = c.index-state.result.now in
    next_read v m c.args.hart.0 x c.args.code.now (fetched c.args.code.now x.pc) c.effect_at-effect.result c.fault_of_next-fault.result
    place alone.none c.index-state.ensures alone.pages refl c.effect_at-effect.ensures.effect
    (c.fault_of_next-fault.ensures ∙ ap (λ (o : Option Effect). fault_by (byte_in m.pages) (can_write_in m.pages) x.pc (fetched c.args.code.now x.pc) o) c.as_ref-asked.ensures.value)

pub returns-in-Some-clause-err : goal.returns-in-Some-clause-err
returns-in-Some-clause-err c v place alone =
    sym (gate_at v c.args.hart.0 _ c.exec_gate.result alone.none (c.exec_gate.ensures v.setting v.plain place.tied place.lt)
    (next (goal.at.returns-in-Some-clause-err c).After-next-1 v place alone)) ∙ c.in-Some.is

pub returns-in-None-clause-ok : goal.returns-in-None-clause-ok
returns-in-None-clause-ok c v place alone =
    let is = next (goal.at.returns-in-None-clause-ok c).After-next-1 v place alone in
    planned v c.args.hart.0 (record { effect = c.effect_at-effect.result; fault = c.fault_of_next-fault.result }) alone.none is c.effect_at-effect.ensures.sizes
    (sym (gate_at v c.args.hart.0 _ c.exec_gate.result alone.none (c.exec_gate.ensures v.setting v.plain place.tied place.lt) is) ∙ c.in-None.is)
