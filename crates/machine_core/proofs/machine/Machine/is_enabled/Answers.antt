-- Whether the thread on a hart may execute its next instruction.
use Rattle.machine_core.proofs.Common.{◌≡◌, ◌<◌, ◌∙◌, ap, arith, sym, subst, refl, length, is_none, is_some, Option, Why, Effect, Here, file_of, here_in_history, history, events, next_effect, plain_seen, ran, seen, setting_of, byte_in, can_write_in, credit_at, same_here, refusal_exec, next_at}
use Rattle.process.specs.ExecGates.{IsNextAt}
use Rattle.process.specs.declared.next.Next.{Next}
use Rattle.machine_core.proofs.OpenSteps.{is_open_by, open_may}
use Rattle.machine_core.proofs.Readings.{bytes_read, here_read, history_of, writable_read}
use Rattle.machine_core.proofs.Sights.{none_is}
use Rattle.machine_core.proofs.machine.Machine.is_enabled.Goals as goal

pub exec_gate-requires : goal.exec_gate-requires
exec_gate-requires c =
    let lt : c.args.hart.0 < c.self.inside.limits.harts = rw (← c.self.view_is) at c.requires.hart in
    omega (arith, lt, c.self.invariant.tied.all_harts)

pub fault_of_next-fault-requires : goal.fault_of_next-fault-requires
fault_of_next-fault-requires c = rw c.as_ref-2.ensures.value c.requires.sizes

pub returns-then-is_open : goal.returns-then-is_open
returns-then-is_open c =
    let v = c.args.self.now in
    let x = c.args.state.now in
    let is : c.is_open.result ≡ is_open_by (is_some x.running) (is_some x.waits) (length x.buffer) (next_effect v.setting.program.pages (file_of x)) =
    c.is_open.ensures ∙ ap (λ (o : Option Effect). is_open_by (is_some x.running) (is_some x.waits) (length x.buffer) o) (c.as_ref.ensures.value ∙ c.requires.effect) in
    open_may (here_in_history v.setting (history v.setting v.log) c.args.hart.0) x _ _ _ c.requires.state (sym is ∙ c.if-is_open.true)

pub returns : goal.returns
returns c =
    let m = c.self.inside in
    let h = c.args.hart.0 in
    let x = c.args.state.now in
    let next : Next = record { effect = c.args.effect; fault = c.fault_of_next-fault.result } in
    let at = here_read m h in
    let effect : c.args.effect ≡ next_effect m.code (file_of x) = rw (← c.self.view_is) at c.requires.effect in
    let same = same_here (seen m) h c.self.invariant.run in
    let is : IsNextAt at next = next_at at x (ran h (history_of m)) (events h (history_of m)) (credit_at (setting_of m) m.seed h (history_of m)) m.code (byte_in m.parts.pages) (can_write_in m.parts.pages) next (rw (← c.self.view_is) at c.requires.state) refl (bytes_read m h c.self.invariant) (writable_read m h c.self.invariant) effect
    (c.fault_of_next-fault.ensures ∙ rw (c.as_ref-2.ensures.value, effect) refl) in
    let refusal : c.exec_gate.result ≡ refusal_exec at =
    c.exec_gate.ensures (setting_of m) (plain_seen (seen m)) c.self.invariant.tied (rw (← c.self.view_is) at c.requires.hart) (subst (λ (z : Here). IsNextAt z next) (sym same) is) ∙ ap refusal_exec same in
    rw (← c.self.view_is) (none_is c.exec_gate.result c.is_none.result c.is_none.ensures ∙ ap (λ (o : Option Why). is_none o) refusal)
