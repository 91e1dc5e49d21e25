use Rattle.process.proofs.Common.{◌≡◌, Some, None, is_some, ap, refl, ◌∙◌, exec_refusal, here_at, is_held, others_gate}
use Rattle.process.proofs.HartStates.{hart_tied}
use Rattle.process.proofs.ExecGates.{gate_is}
use Rattle.process.proofs.parts.Parts.exec_gate_beside.Goals as goal

pub returns-in-Some : goal.returns-in-Some
returns-in-Some c v tied lt shared is =
    let h = c.args.hart.0 in
    let x = c.index-state.result.now in
    let next = c.args.next.now in
    let first : Some c.in-Some.why ≡ exec_refusal x next.effect (is_some next.fault) = cc in
    gate_is v h _ x next (Some c.in-Some.why) (Some c.in-Some.why) (hart_tied v.setting v.plain c.args.self.now h x tied lt c.index-state.ensures) is first (λ t at. refl) (λ e. refl)

pub returns-in-None : goal.returns-in-None
returns-in-None c v tied lt shared is =
    let h = c.args.hart.0 in
    let x = c.index-state.result.now in
    let first : None ≡ exec_refusal x c.args.next.now.effect (is_some c.args.next.now.fault) = cc in
    gate_is v h _ x c.args.next.now None c.others_gate.result (hart_tied v.setting v.plain c.args.self.now h x tied lt c.index-state.ensures) is first
    (λ t at. c.others_gate.ensures v t tied lt shared at ∙ ap (others_gate (is_held (here_at v h) t)) c.as_ref-in-None.ensures.value) (λ e. cc)
