use Rattle.std.proofs.Common.{◌+◌, ◌∙◌, map, subst, sym, take}
use Rattle.log_gather.specs.ByteSets.{IsTouched}
use Rattle.log_gather.specs.Marks.{steps_of}
use Rattle.log_gather.specs.Turns.{event_of, own_steps}
use Rattle.log_gather.specs.declared.clashes.Touched.{Touched}
use Rattle.log_gather.proofs.TouchedBytes.{touched_other, touched_own}
use Rattle.log_gather.proofs.clashes.Touched.of.Goals as goal
use Rattle.log_gather.proofs.clashes.Touched.of.Goals.{then-is_of+in_ok-add, else-is_of}

pub loop-mark-preserved : goal.loop-mark-preserved
loop-mark-preserved c =
    let d = c.args.details.now in
    let h = c.args.hart.0 in
    let span = c.args.span.now in
    let i = c.loop-mark.mark-index in
    let P : Touched → Type 0 = λ t. IsTouched (map event_of (own_steps h (steps_of d (take (i + 1) span)))) t in
    elim c.if-is_of.branch [
      | then-is_of+in_ok-add w ↦
          subst P (sym w.touched-is)
          (touched_own d h span i _ c.loop-mark.touched _ c.loop-mark.invariant c.loop-mark-test.true (sym c.is_of.ensures ∙ w.if-is_of.true) w.in_ok-add.ensures)
      | else-is_of w ↦
          subst P (sym w.touched-is)
          (touched_other d h span i _ c.loop-mark.touched c.loop-mark.invariant c.loop-mark-test.true (sym c.is_of.ensures ∙ w.if-is_of.false))
    ]
