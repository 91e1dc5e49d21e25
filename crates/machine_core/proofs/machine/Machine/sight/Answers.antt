-- What a scheduler sees of a hart.
use Rattle.machine_core.proofs.Common.{◌≡◌, ◌<◌, ◌∙◌, ◌&&◌, ap, length, is_some, is_none, not, eqb, false, Option, option_map, option_map_or, Scheduling, HartState, Here, events, hart_in, here_of, plain_seen, ran, runs, seen, sets_register, setting_of, Effect, credit_at, is_deliverable_on, thread, stand_of, same_here, standing, has_signals, first_for, refusal_exec, is_all_taken}
use Rattle.machine_core.proofs.Readings.{here_read, history_of, scheduling_read}
use Rattle.machine_core.proofs.Sights.{deliverable_read, idle_read, local_read, numbered, tested, untested}
use Rattle.machine_core.proofs.machine.Machine.sight.Goals.{then-not-is_idle, else-not-is_idle}
use Rattle.machine_core.proofs.machine.Machine.sight.Goals as goal

pub deliverable-requires-clause-held : goal.deliverable-requires-clause-held
deliverable-requires-clause-held c =
    has_signals (stand_of (seen c.self.inside)) c.self.inside.parts c.args.hart.0 (standing (seen c.self.inside) c.self.invariant.run) c.self.invariant.tied (rw (← c.self.view_is) at c.requires)

pub is_enabled-requires-clause-effect : goal.is_enabled-requires-clause-effect
is_enabled-requires-clause-effect c = rw (← c.self.view_is) c.effect_at-effect.ensures.effect

pub returns : goal.returns
returns c =
    let m = c.self.inside in
    let h = c.args.hart.0 in
    let x = c.hart-state.result.now in
    let at = here_read m h in
    let here : x ≡ hart_in at (ran h (history_of m)) (events h (history_of m)) (credit_at (setting_of m) m.seed h (history_of m)) = rw (← c.self.view_is) at c.hart-state.ensures in
    let lt : h < m.limits.harts = rw (← c.self.view_is) at c.requires in
    let same = same_here (seen m) h c.self.invariant.run in
    let enabled : c.is_enabled.result ≡ is_none (refusal_exec at) = rw (← c.self.view_is) at c.is_enabled.ensures in
    let local : c.if-not-is_idle.result ≡ (is_some x.running && option_map_or sets_register c.effect_at-effect.result false) = elim c.if-not-is_idle.branch [
      | then-not-is_idle w ↦ tested (is_some x.running) c.is_idle-2.result _ _ c.is_idle-2.ensures w.if-not-is_idle.true
          (w.result-is ∙ w.is_local.ensures ∙ ap (λ (e : Option Effect). option_map_or sets_register e false) w.as_ref.ensures.value)
      | else-not-is_idle w ↦ untested (is_some x.running) c.is_idle-2.result _ _ c.is_idle-2.ensures w.if-not-is_idle.false w.result-is
    ] in
    let deliverable : c.is_some-2.result ≡ is_deliverable_on at (runs at) =
    deliverable_read (here_of (seen m) h) c.deliverable.result c.is_some-2.result c.is_some-2.ensures (c.deliverable.ensures (setting_of m) (plain_seen (seen m)) c.self.invariant.tied lt)
    ∙ ap (λ (z : Here). is_deliverable_on z (runs z)) same in
    rw (← c.self.view_is) (λ i. record {
      idle = (c.is_idle.ensures ∙ idle_read at x _ _ _ here) i;
      first_ready = (numbered c.first_for.result ∙ ap (option_map thread) (c.first_for.ensures ∙ ap (λ (s : Scheduling). first_for h s) (scheduling_read m h c.self.invariant))) i;
      in_barrier = (c.is_some.ensures ∙ ap (λ (y : HartState). is_some y.waits) here) i;
      all_taken = (c.is_all_taken.ensures ∙ ap (λ (y : HartState). is_all_taken y.waits) here) i;
      requested = (ap (λ (y : HartState). not (eqb y.requests 0)) here) i;
      stores = (c.len.ensures.count ∙ ap (λ (y : HartState). length y.buffer) here) i;
      deliverable = deliverable i;
      exec_enabled = enabled i;
      local = (local ∙ ap (λ (e : Option Effect). is_some x.running && option_map_or sets_register e false) c.effect_at-effect.ensures.effect ∙ local_read at x _ _ _ here) i;
      ran = (ap (λ (y : HartState). y.ran) here) i;
      credit = (ap (λ (y : HartState). y.credit) here) i;
    })
