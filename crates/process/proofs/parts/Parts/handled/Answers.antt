-- A signal is delivered to a thread.
use Rattle.process.proofs.Common.{◌≡◌, false, rules, sym, ap, ◌∙◌, fun_ext, Kernel, Saved}
use Rattle.mach_types.specs.Kernel.Signals.{is_held}
use Rattle.process.proofs.SignalDelivery.{IsHalfway, delivered_by, held_taken}
use Rattle.process.proofs.Interruptions.{is_fatal}
use Rattle.process.proofs.parts.Parts.handled.Goals as goal

pub enter_unless_killed-requires : goal.enter_unless_killed-requires
enter_unless_killed-requires c =
    let taken = ap (λ (k : Kernel). k.signals) c.interrupted-outcome.ensures.kernel ∙ c.take_pending.ensures in
    record {
      held = ap (is_held c.args.tid.0) taken ∙ held_taken c.args.tid.0 c.args.signal c.args.tid.0 c.args.self.now.kernel.signals ∙ c.requires.held;
      lowest = c.requires.lowest;
      highest = c.requires.highest;
    }

pub returns-in-Nothing : goal.returns-in-Nothing
returns-in-Nothing c =
    let m = c.args.self.now in
    let x = c.args.saved.now in
    let o = c.interrupted-outcome.result in
    let m1 = c.interrupted-outcome.new.self in
    let x1 : Saved = record { file = x.file; pc = c.pc_after-saved.result } in
    let goes : is_fatal o ≡ false = search rules in
    record {
      delivered = λ h found.
          let half : IsHalfway h c.args.tid.0 c.args.hart.0 c.args.signal o x x1 c.area_of-area.result c.fault_of-fault.result m m1 = record {
            found = found;
            area = c.area_of-area.ensures;
            comes = sym c.interrupted-outcome.ensures.outcome;
            file = ap (λ n. let y : Saved = record { file = x.file; pc = n } in y) c.pc_after-saved.ensures;
            pages = c.interrupted-outcome.ensures.pages;
            harts = c.interrupted-outcome.ensures.harts;
            signals = ap (λ (k : Kernel). k.signals) c.interrupted-outcome.ensures.kernel ∙ c.take_pending.ensures;
            told = c.fault_of-fault.ensures;
          } in
          delivered_by h c.args.tid.0 c.args.hart.0 c.args.signal o x x1 c.enter_unless_killed.new.saved c.area_of-area.result c.fault_of-fault.result m m1 c.enter_unless_killed.new.self half
          c.enter_unless_killed.result goes c.enter_unless_killed.ensures.killer (fun_ext c.interrupted-outcome.ensures.writable) c.enter_unless_killed.ensures.entered;
      others = c.enter_unless_killed.ensures.others
          ∙ ap (λ (k : Kernel). record k { signals = c.enter_unless_killed.new.self.kernel.signals }) c.interrupted-outcome.ensures.kernel;
      ended = c.enter_unless_killed.ensures.ended ∙ c.interrupted-outcome.ensures.ended;
    }
