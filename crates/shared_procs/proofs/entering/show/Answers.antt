-- A store that lies in the segment is shown, and another one isn't.
use Rattle.shared_procs.proofs.Common.{Bool, [], ◌∷◌, cond, sym, ◌∙◌, subst, aside, IsTied, Stored}
use Rattle.shared_procs.proofs.entering.show.Goals as goal

pub returns-then-is_in_segment : goal.returns-then-is_in_segment
returns-then-is_in_segment c s y d tied took barrier =
    subst (λ (b : Bool). IsTied s (aside c.args.hart.0 d (cond b (Stored c.args.store ∷ []) []) y) c.pass_by.new.self)
    (sym (sym c.is_in_segment.ensures ∙ c.if-is_in_segment.true)) (c.pass_by.ensures s y d tied took barrier)

pub returns-else-is_in_segment : goal.returns-else-is_in_segment
returns-else-is_in_segment c s y d tied took barrier =
    subst (λ (b : Bool). IsTied s (aside c.args.hart.0 d (cond b (Stored c.args.store ∷ []) []) y) c.unseen.new.other)
    (sym (sym c.is_in_segment.ensures ∙ c.if-is_in_segment.false)) (c.unseen.ensures s y d tied took barrier)
