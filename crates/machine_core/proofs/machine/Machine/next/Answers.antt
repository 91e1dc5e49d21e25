-- The next instruction of a hart's thread, and its fault.
use Rattle.machine_core.proofs.Common.{◌∙◌, byte_in, can_write_in, false, sym, true}
use Rattle.machine_core.proofs.Readings.{bytes_read, here_read, writable_read}
use Rattle.machine_core.proofs.Sights.{effect_read, fault_read}
use Rattle.machine_core.proofs.machine.Machine.next.Goals as goal

pub returns-else-is_idle-clause-effect : goal.returns-else-is_idle-clause-effect
returns-else-is_idle-clause-effect c =
    rw (← c.self.view_is) (c.next_of.ensures.effect
    ∙ effect_read (here_read c.self.inside c.args.hart.0) c.hart-state.result.now _ _ _ false (rw (← c.self.view_is) at c.hart-state.ensures) (sym c.if-is_idle.false ∙ c.is_idle.ensures))

pub returns-else-is_idle-clause-fault : goal.returns-else-is_idle-clause-fault
returns-else-is_idle-clause-fault c =
    let m = c.self.inside in
    rw (← c.self.view_is) (c.next_of.ensures.fault
    ∙ fault_read (here_read m c.args.hart.0) c.hart-state.result.now _ _ _ (byte_in m.parts.pages) (can_write_in m.parts.pages) false (rw (← c.self.view_is) at c.hart-state.ensures)
    (bytes_read m c.args.hart.0 c.self.invariant) (writable_read m c.args.hart.0 c.self.invariant) (sym c.if-is_idle.false ∙ c.is_idle.ensures))

pub returns-then-is_idle-clause-effect : goal.returns-then-is_idle-clause-effect
returns-then-is_idle-clause-effect c =
    rw (← c.self.view_is) (effect_read (here_read c.self.inside c.args.hart.0) c.hart-state.result.now _ _ _ true (rw (← c.self.view_is) at c.hart-state.ensures) (sym c.if-is_idle.true ∙ c.is_idle.ensures))

pub returns-then-is_idle-clause-fault : goal.returns-then-is_idle-clause-fault
returns-then-is_idle-clause-fault c =
    let m = c.self.inside in
    rw (← c.self.view_is) (fault_read (here_read m c.args.hart.0) c.hart-state.result.now _ _ _ (byte_in m.parts.pages) (can_write_in m.parts.pages) true (rw (← c.self.view_is) at c.hart-state.ensures)
    (bytes_read m c.args.hart.0 c.self.invariant) (writable_read m c.args.hart.0 c.self.invariant) (sym c.if-is_idle.true ∙ c.is_idle.ensures))
