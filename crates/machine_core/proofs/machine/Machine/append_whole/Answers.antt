use Rattle.machine_core.proofs.Common.{◌++◌, length, map, ◌≡◌, refl, sym, ap, ◌∙◌, subst, arith, Some, true, executed, setting_of, stretch_of, Bool, HartState}
use Rattle.machine_core.proofs.AdvanceAnswers.{all_of, chosen_of}
use Rattle.machine_core.proofs.StretchAppends.{counts_fit, of_machine, ready, taken_ready, with_hart}
use Rattle.machine_core.proofs.MachineCredits.{IsSettled, machine_so}
use Rattle.machine_core.proofs.machine.Machine.append_whole.Goals as goal

pub index_mut-state-requires : goal.index_mut-state-requires
index_mut-state-requires c =
    let lt = of_machine c.self.inside c.args.hart (stretch_of c.args.stretch) (rw (← c.self.view_is) at c.requires.fits) in
    omega (arith, c.self.invariant.tied.all_harts, lt, c.self.inside.parts.harts.ok.0)

pub unreachable-requires : goal.unreachable-requires
unreachable-requires c =
    let m = c.self.inside in
    let l = stretch_of c.args.stretch in
    let is = ready m c.args.hart l c.index_mut-state.result.now c.self.invariant (rw (← c.self.view_is) at c.requires.chosen) (rw (← c.self.view_is) at c.requires.fits)
    (rw (← c.self.view_is) at c.requires.goes) (rw (← c.self.view_is) at c.requires.events) c.index_mut-state.ensures.value in
    c.in_default.not-Some is.thread is.way.busy

pub take_in-requires : goal.take_in-requires
take_in-requires c =
    let m = c.self.inside in
    let l = stretch_of c.args.stretch in
    let lt = of_machine m c.args.hart l (rw (← c.self.view_is) at c.requires.fits) in
    let fit = counts_fit m c.args.hart c.index_mut-state.result.now (length l.pcs) c.self.invariant lt c.index_mut-state.ensures.value (rw (← c.self.view_is) at c.requires.room) in
    record { ran = fit.0; events = fit.1 }

pub invariant_of-self : goal.invariant_of-self
invariant_of-self c =
    let m = c.self.inside in
    let h = c.args.hart in
    let l = stretch_of c.args.stretch in
    let x = c.index_mut-state.result.now in
    let all = taken_ready m h l x c.in-Some.tid c.self.invariant (rw (← c.self.view_is) at c.requires.chosen) (rw (← c.self.view_is) at c.requires.fits)
    (rw (← c.self.view_is) at c.requires.goes) (rw (← c.self.view_is) at c.requires.events) c.index_mut-state.ensures.value (rw (← c.self.view_is) at c.requires.room) c.in-Some.is in
    let log : c.append_executed.new.log.items ≡ m.log.items ++ map (executed h c.in-Some.tid) l.pcs =
    c.append_executed.ensures.items ∙ ap (λ pcs. m.log.items ++ map (executed h c.in-Some.tid) pcs) c.as_slice.ensures.value in
    let machine = c.self.invariant in
    let chosen_so : m.chosen ≡ true = machine.chosen ∙ sym (all_of (setting_of m) m.seed m.log.items (rw (← c.self.view_is) at c.requires.chosen)) in
    let set = subst (λ (z : HartState × Bool). IsSettled (setting_of m) m.seed (m.log.items ++ map (executed h c.in-Some.tid) l.pcs) (with_hart m h.0 z.0) m.chooser z.1)
    (λ i. (sym c.take_in.ensures i, sym chosen_so i)) all.settled in
    machine_so _ (m.log.items ++ map (executed h c.in-Some.tid) l.pcs) log all.run set machine.limits (omega (arith, machine.room, c.append_executed.ensures.capacity))

pub returns : goal.returns
returns c =
    let m = c.self.inside in
    let h = c.args.hart in
    let l = stretch_of c.args.stretch in
    let all = taken_ready m h l c.index_mut-state.result.now c.in-Some.tid c.self.invariant (rw (← c.self.view_is) at c.requires.chosen) (rw (← c.self.view_is) at c.requires.fits)
    (rw (← c.self.view_is) at c.requires.goes) (rw (← c.self.view_is) at c.requires.events) c.index_mut-state.ensures.value (rw (← c.self.view_is) at c.requires.room) c.in-Some.is in
    let log : c.append_executed.new.log.items ≡ m.log.items ++ map (executed h c.in-Some.tid) l.pcs =
    c.append_executed.ensures.items ∙ ap (λ pcs. m.log.items ++ map (executed h c.in-Some.tid) pcs) c.as_slice.ensures.value in
    record {
      setting = rw (← c.self.view_is) refl;
      seed = rw (← c.self.view_is) refl;
      log = rw (← c.self.view_is) (all.log_after ∙ ap Some (sym log));
      chosen = chosen_of (setting_of m) m.seed c.append_executed.new.log.items (rw log all.settled.chosen);
      block_run = rw log all.run;
    }
