-- One store after the other enters memory.
use Rattle.shared_procs.proofs.Common.{◌≡◌, None, List, drop, slice_get, sym, ap, ◌∙◌, subst, AreEntering, Store}
use Rattle.shared_procs.proofs.Entered.{entering_end, entering_more, none_left}
use Rattle.shared_procs.proofs.entering.leave_all.Goals as goal

pub stores-preserved : goal.stores-preserved
stores-preserved c =
    let waited = c.args.buffer.now in
    let left = c.stores.buffer in
    let m = c.args.pages.now in
    let segment = c.args.segment.now in
    let other = c.args.other.now in
    subst (λ (ws : List Store). AreEntering waited ws m segment other c.leave_one.new.pages c.leave_one.new.segment c.leave_one.new.other) (sym c.pop.ensures.rest)
    (entering_more waited left c.in-Some.store m c.stores.pages c.leave_one.new.pages segment c.stores.segment c.leave_one.new.segment other c.stores.other
    c.leave_one.new.other c.stores.invariant c.in-Some.ensures.oldest c.leave_one.ensures.entered c.leave_one.ensures.lost)

pub returns : goal.returns
returns c =
    let left = c.stores.buffer in
    let none : None ≡ slice_get left 0 = sym c.in_default.is ∙ c.pop.ensures.oldest in
    let end =
    entering_end c.args.buffer.now left c.args.pages.now c.stores.pages c.args.segment.now c.stores.segment c.args.other.now c.stores.other c.stores.invariant none in
    record {
      buffer = c.pop.ensures.rest ∙ ap (λ (ws : List Store). drop 1 ws) (none_left left none);
      entered = end.0;
      lost = end.1;
    }
